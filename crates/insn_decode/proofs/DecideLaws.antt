-- What a node of the decision tree stands for, and that it stays so while the arrays grow.
use Rattle.std.proofs.Common.{◌≡◌, ◌∙◌, sym, ap, subst, ℕ, ◌<◌, ◌≤◌, List, length, Some, None, arith}
use Rattle.std.specs.Prelude.{slice_get, slice_range}
use Rattle.std.proofs.lemmas.Option.{slice_get_within}
use Rattle.spec_decode.specs.Bucket.{Encoding, next_bit, agreeing}
use Rattle.insn_decode.specs.declared.node.Node.{Node}
use Rattle.insn_decode.specs.declared.node.Node.TheVariants.{Leaves, Test}
use Rattle.insn_decode.specs.Decides.{Decides, run, branch}

pub record IsLeaves (order : List Encoding) (from to : ℕ) (es : List Encoding) : Type 0 where
  pub none : next_bit es ≡ None
  pub ends : from ≤ to
  pub within : to ≤ length order
  pub is : slice_range order from to ≡ es

pub record IsTest (nodes : List Node) (order : List Encoding) (k i below above : ℕ) (es : List Encoding) : Type 0 where
  pub next : next_bit es ≡ Some i
  pub below_before : below < k
  pub above_before : above < k
  pub below_is : Decides nodes order below (agreeing i 0 es)
  pub above_is : Decides nodes order above (agreeing i 1 es)

module _ (nodes : List Node) (order : List Encoding) where
  pub leaves_is : (k from to : ℕ) (es : List Encoding) → slice_get nodes k ≡ Some (Leaves from to) → Decides nodes order k es → IsLeaves order from to es
  leaves_is k from to es at (run _ from' to' _ at' none ends within is) =
      let left : from' ≡ from = cc (at, at') in
      let right : to' ≡ to = cc (at, at') in
      record { none = none; ends = omega (arith, left, right, ends); within = omega (arith, right, within); is = ap (λ n. slice_range order n to) (sym left) ∙ ap (slice_range order from') (sym right) ∙ is }
  leaves_is k from to es at (branch _ i below above _ at' next b a db da) = absurd (cc (at, at'))

  pub test_is : (k i below above : ℕ) (es : List Encoding) → slice_get nodes k ≡ Some (Test i below above) → Decides nodes order k es → IsTest nodes order k i below above es
  test_is k i below above es at (run _ from to _ at' none ends within is) = absurd (cc (at, at'))
  test_is k i below above es at (branch _ i' below' above' _ at' next b a db da) =
      let bit : i' ≡ i = cc (at, at') in
      let low : below' ≡ below = cc (at, at') in
      let high : above' ≡ above = cc (at, at') in
      record {
        next = next ∙ ap (λ n. Some n) bit;
        below_before = omega (arith, b, low);
        above_before = omega (arith, a, high);
        below_is = subst (λ n. Decides nodes order n (agreeing i 0 es)) low (subst (λ j. Decides nodes order below' (agreeing j 0 es)) bit db);
        above_is = subst (λ n. Decides nodes order n (agreeing i 1 es)) high (subst (λ j. Decides nodes order above' (agreeing j 1 es)) bit da);
      }

  pub decides_within : (k : ℕ) (es : List Encoding) → Decides nodes order k es → k < length nodes
  decides_within k es (run _ from to _ at none ends within is) = slice_get_within nodes k (Leaves from to) at
  decides_within k es (branch _ i below above _ at next b a db da) = slice_get_within nodes k (Test i below above) at
