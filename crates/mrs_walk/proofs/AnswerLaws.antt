-- Laws of answers: what one reader gave is what the walk around it gives.
use Rattle.std.proofs.Common.{◌≡◌, ◌∙◌, sym, ap, subst, ℕ, List, Option, Some, None, Result, Ok, Err}
use Rattle.std.specs.Bool.{⊤}
use Rattle.std.specs.Result.{IsErrAnd}
use Rattle.spec_walk.specs.Event.{Why, Fault}
use Rattle.spec_walk.specs.Limits.{Counts}
use Rattle.spec_walk.specs.Walk.{Walk, Done, ◌>>>◌, gives}
use Rattle.spec_walk.specs.Spot.{Spot, wrong, member_at, if_there, optional}
use Rattle.spec_walk.proofs.WalkLaws.{gives-next, gives-stops}
use Rattle.mrs_walk.specs.Gives.{Gives, Fails, Puts}
use Rattle.mrs_walk.specs.declared.fault.ReadFault.{ReadFault}
use Rattle.mrs_walk.specs.declared.fault.ReadFault.TheVariants.{Schema, NoMemory}

-- a fault that is made is the one in which the walk ends
pub Fails-made : {A : Type 0} (e : ReadFault) (here : Spot) (why : Why) (ended : Result A Fault) → Gives {T = ⊤} {A = ⊤} (Err e) (wrong here why) (λ x. x) → ended ≡ Err (record { at = here.at; why = why }) → Fails e ended
Fails-made (Schema f) here why ended made ends = ends ∙ ap Err (let same = made in cc)
Fails-made NoMemory here why ended made ends = tt

-- the front of a walk fails
pub Fails-then : {A B : Type 0} (e : ReadFault) (w : Walk A) (next : A → Walk B) (c : Counts) → Fails e (gives w c) → Fails e (gives (w >>> next) c)
Fails-then (Schema f) w next c h = gives-stops w next c _ h
Fails-then NoMemory w next c h = tt

pub Fails-same : {A : Type 0} (e : ReadFault) (r s : Result A Fault) → s ≡ r → Fails e r → Fails e s
Fails-same (Schema f) r s is h = is ∙ h
Fails-same NoMemory r s is h = tt

-- the exit of a `?`
pub Puts-exit : {T A : Type 0} (r : Result T ReadFault) (e : ReadFault) (w : Walk A) (c d : Counts) (P : A → T → Type 0) → IsErrAnd r (λ y. y ≡ e) → Fails e (gives w c) → Puts r w c d P
Puts-exit (Ok x) e w c d P h fails = absurd h
Puts-exit (Err y) e w c d P h fails = subst (λ (z : ReadFault). Fails z (gives w c)) (sym h) fails

-- the front of a walk ends with a value
pub Puts-then : {T A B : Type 0} (r : Result T ReadFault) (w : Walk A) (next : A → Walk B) (x : A) (c d e : Counts) (P : B → T → Type 0) → gives w c ≡ Ok (x, d) → Puts r (next x) d e P → Puts r (w >>> next) c e P
Puts-then (Ok y) w next x c d e P passed h = record { value = h.value; walked = gives-next w next c d x passed ∙ h.walked; stands = h.stands }
Puts-then (Err f) w next x c d e P passed h = Fails-same f _ _ (gives-next w next c d x passed) h

pub Puts-same : {T A : Type 0} (r : Result T ReadFault) (v w : Walk A) (c d : Counts) (P : A → T → Type 0) → w ≡ v → Puts r v c d P → Puts r w c d P
Puts-same {A = A} r v w c d P is h = subst (λ (u : Walk A). Puts r u c d P) (sym is) h

-- the last walk of a row, whose value is made into another
pub Puts-last : {T A B : Type 0} (r : Result T ReadFault) (w : Walk A) (make : A → B) (c d : Counts) (P : A → T → Type 0) (Q : B → T → Type 0) → ((a : A) (x : T) → P a x → Q (make a) x) → Puts r w c d P → Puts r (w >>> λ a. Done (make a)) c d Q
Puts-last (Ok x) w make c d P Q f h = record { value = make h.value; walked = gives-next w (λ a. Done (make a)) c d h.value h.walked; stands = f h.value x h.stands }
Puts-last (Err e) w make c d P Q f h = Fails-then e w (λ a. Done (make a)) c h

-- a fault of a walk that meets nothing
pub Fails-plain : {T A : Type 0} (e : ReadFault) (w : Walk A) (stands : T → A) (c : Counts) → Gives (Err e) w stands → Fails e (gives w c)
Fails-plain (Schema f) w stands c h = ap (λ v. gives v c) h
Fails-plain NoMemory w stands c h = tt

-- a member that may be absent
pub optional-absent : {A : Type 0} (key : List ℕ) (read : Spot → Walk A) (here : Spot) → None ≡ member_at key here → optional key read here ≡ Done None
optional-absent key read here h = ap (λ o. if_there o read) (sym h)

pub optional-there : {A : Type 0} (key : List ℕ) (read : Spot → Walk A) (here there : Spot) → Some there ≡ member_at key here → optional key read here ≡ read there >>> λ x. Done (Some x)
optional-there key read here there h = ap (λ o. if_there o read) (sym h)

pub Puts-there : {T A : Type 0} (r : Result T ReadFault) (key : List ℕ) (read : Spot → Walk A) (here there : Spot) (c d : Counts) (P : A → T → Type 0) (Q : Option A → T → Type 0) → Some there ≡ member_at key here → ((a : A) (x : T) → P a x → Q (Some a) x) → Puts r (read there) c d P → Puts r (optional key read here) c d Q
Puts-there r key read here there c d P Q is f h = Puts-same r _ _ c d Q (optional-there key read here there is) (Puts-last r (read there) Some c d P Q f h)
