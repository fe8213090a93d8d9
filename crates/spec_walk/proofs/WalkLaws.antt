-- Laws of walks in a row.
use Rattle.std.proofs.Common.{◌≡◌, ◌∙◌, ap, refl, Result, Ok, Err}
use Rattle.spec_walk.specs.Event.{Fault}
use Rattle.spec_walk.specs.Limits.{Counts, after, ◌>>=◌, judged}
use Rattle.spec_walk.specs.Walk.{Walk, Done, Stop, Meet, ◌>>>◌, events, gives}
use Rattle.spec_walk.specs.FirstFault.{end_of}

bind-same : {A B C : Type 0} (r : Result A Fault) (f : A → Result B Fault) (g : B → Result C Fault) (h : A → Result C Fault) → ((x : A) → h x ≡ f x >>= g) → r >>= h ≡ r >>= f >>= g
bind-same (Ok x) f g h is = is x
bind-same (Err e) f g h is = refl

-- the second walk goes on with the value of the first and the counts behind it
pub gives-then : {A B : Type 0} (w : Walk A) (next : A → Walk B) (c : Counts) → gives (w >>> next) c ≡ gives w c >>= λ p. gives (next p.0) p.1
gives-then (Done x) next c = refl
gives-then (Stop f) next c = refl
gives-then (Meet e w) next c = bind-same (after e c) (gives w) (λ p. gives (next p.0) p.1) (gives (w >>> next)) (gives-then w next)

-- a walk without a fault, and one with a fault, in front
pub gives-next : {A B : Type 0} (w : Walk A) (next : A → Walk B) (c d : Counts) (x : A) → gives w c ≡ Ok (x, d) → gives (w >>> next) c ≡ gives (next x) d
gives-next w next c d x h = gives-then w next c ∙ ap (λ r. r >>= λ p. gives (next p.0) p.1) h

pub gives-stops : {A B : Type 0} (w : Walk A) (next : A → Walk B) (c : Counts) (f : Fault) → gives w c ≡ Err f → gives (w >>> next) c ≡ Err f
gives-stops w next c f h = gives-then w next c ∙ ap (λ r. r >>= λ p. gives (next p.0) p.1) h

-- the counts are those behind the events, and the fault is the first of them
pub judged-gives : {A : Type 0} (w : Walk A) (c : Counts) → judged (events w) c ≡ gives w c >>= λ p. Ok p.1
judged-gives (Done x) c = refl
judged-gives (Stop f) c = refl
judged-gives (Meet e w) c = bind-same (after e c) (gives w) (λ p. Ok p.1) (judged (events w)) (judged-gives w)

-- walks in a row may be put together either way
pub then-assoc : {A B C : Type 0} (w : Walk A) (f : A → Walk B) (g : B → Walk C) → w >>> f >>> g ≡ w >>> λ x. f x >>> g
then-assoc (Done x) f g = refl
then-assoc (Stop e) f g = refl
then-assoc (Meet e w) f g = ap (λ v. Meet e v) (then-assoc w f g)

-- what stands behind the events
pub gives-judged : {A : Type 0} (w : Walk A) (c : Counts) → gives w c ≡ judged (events w) c >>= end_of w
gives-judged (Done x) c = refl
gives-judged (Stop f) c = refl
gives-judged (Meet e w) c = bind-same (after e c) (judged (events w)) (end_of w) (gives w) (gives-judged w)
