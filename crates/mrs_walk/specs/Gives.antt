-- What a reader answers of a walk, unless memory runs out.
use Rattle.std.specs.Prelude.{◌≡◌, Result, Ok, Err, ⊤}
use Rattle.spec_walk.specs.Event.{Fault}
use Rattle.spec_walk.specs.Limits.{Counts}
use Rattle.spec_walk.specs.Walk.{Walk, Done, Stop, gives}
use Rattle.mrs_walk.specs.Faults.{fault_of}
use Rattle.mrs_walk.specs.declared.fault.ReadFault.{ReadFault}
use Rattle.mrs_walk.specs.declared.fault.ReadFault.TheVariants.{Schema, NoMemory}

-- of a walk that meets nothing: the answer stands for its value, or is its fault
abbrev pub Gives : {T A : Type 0} → Result T ReadFault → Walk A → (T → A) → Type 0
Gives (Ok x) walk stands = walk ≡ Done (stands x)
Gives (Err (Schema f)) walk stands = walk ≡ Stop (fault_of f)
Gives (Err NoMemory) walk stands = ⊤

-- a refusal is the fault in which a walk ends
abbrev pub Fails : {A : Type 0} → ReadFault → Result A Fault → Type 0
Fails (Schema f) ended = ended ≡ Err (fault_of f)
Fails NoMemory ended = ⊤

-- a walk that goes from these counts to those, with a value of which that holds
pub record Ends {A : Type 0} (walk : Walk A) (before after : Counts) (P : A → Type 0) : Type 0 where
  pub value : A
  pub walked : gives walk before ≡ Ok (value, after)
  pub stands : P value

-- of any walk: where it ends without a fault, its value stands in that relation to the answer
abbrev pub Puts : {T A : Type 0} → Result T ReadFault → Walk A → Counts → Counts → (A → T → Type 0) → Type 0
Puts (Ok x) walk before after P = Ends walk before after (λ a. P a x)
Puts (Err e) walk before after P = Fails e (gives walk before)
