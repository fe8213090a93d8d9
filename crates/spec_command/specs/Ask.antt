-- What is asked of settings: keys, and a value by what the settings say of them. The keys and the value are put together
-- in one go, so that a command has just the keys that its request is made of.
use Rattle.std.specs.Prelude.{ℕ, Bool, List, [], ◌∷◌, ◌++◌, Option, Some, None, option_map, unwrap_or, if◌then◌else◌}
use Rattle.std.specs.Option.{option_and_then}
use Rattle.spec_command.specs.Setting.{value_in}

-- the keys, and the value by the settings; there is none where a needed key is missing
pub record Ask (A : Type 0) : Type 0 where
  pub keys : List (List ℕ)
  pub value : List (List ℕ × List ℕ) → Option A

-- a key that is needed
abbrev pub needed : List ℕ → Ask (List ℕ)
needed key = record { keys = key ∷ []; value = λ settings. value_in key settings }

-- a key that may be missing, and then says this
abbrev pub may_say : List ℕ → List ℕ → Ask (List ℕ)
may_say key text = record { keys = key ∷ []; value = λ settings. Some (unwrap_or (value_in key settings) text) }

-- a key that may be missing, and then is this; else it is what its value is read as, by a reading of the values that the key takes
abbrev pub may_be : {A : Type 0} → List ℕ → (List ℕ → Option A) → A → Ask A
may_be key read other = record { keys = key ∷ []; value = λ settings. Some (unwrap_or (option_and_then read (value_in key settings)) other) }

-- a key that may be missing: its value, where a setting says it
abbrev pub optional : List ℕ → Ask (Option (List ℕ))
optional key = record { keys = key ∷ []; value = λ settings. Some (value_in key settings) }

-- what is asked, made into another value
abbrev pub made_into : {A B : Type 0} → (A → B) → Ask A → Ask B
made_into f a = record { keys = a.keys; value = λ settings. option_map f (a.value settings) }

-- what is asked, and something beside it
abbrev pub together : {A B C : Type 0} → (A → B → C) → Ask A → Ask B → Ask C
together f a b = record { keys = a.keys ++ b.keys; value = λ settings. option_and_then (λ x. option_map (f x) (b.value settings)) (a.value settings) }

-- what is asked, handed to what is asked before it
abbrev pub handed : {A B : Type 0} → Ask (A → B) → Ask A → Ask B
handed f a = together (λ g x. g x) f a

-- what is asked, where it passes a test; where it does not, there is none, as where a needed key is missing
abbrev pub provided : {A : Type 0} → (A → Bool) → Ask A → Ask A
provided test a = record { keys = a.keys; value = λ settings. option_and_then (λ x. if test x then Some x else None) (a.value settings) }
