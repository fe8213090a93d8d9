-- Where the walk down the decision tree is, and that it ends at the word's bucket within 32 tests.
use Rattle.std.proofs.Common.{◌≡◌, ◌∙◌, sym, ap, subst, refl, ℕ, zero, suc, ◌+◌, ◌<◌, ◌≤◌, Bool, true, false, cond, ◌==◌, List, Some, length, arith, ◌⊎◌, inl, inr}
use Rattle.std.specs.Prelude.{slice_get, slice_range}
use Rattle.spec_bits.specs.Bits.{bit_of}
use Rattle.spec_bits.proofs.BitLaws.{bit_of-lt}
use Rattle.spec_decode.specs.Bucket.{Encoding, agreeing, Bucket, stop, narrow}
use Rattle.spec_decode.proofs.BucketLaws.{next_bit_splits}
use Rattle.insn_decode.specs.declared.node.Node.{Node}
use Rattle.insn_decode.specs.declared.node.Node.TheVariants.{Leaves, Test}
use Rattle.insn_decode.specs.Decides.{Decides}
use Rattle.insn_decode.proofs.DecideLaws.{IsTest, leaves_is, test_is, decides_within}
use Rattle.insn_decode.proofs.SettledLaws.{settled, settled_most, settled_grows}

-- the walk is at node k, which stands for those of all leaves that remain, and each step so far settled a bit
pub record Reached (nodes : List Node) (order : List Encoding) (w start now k : ℕ) (all : List Encoding) : Type 0 where
  pub es : List Encoding
  pub here : Decides nodes order k es
  pub back : (out : List Encoding) → Bucket w out es → Bucket w out all
  pub cost : now ≤ start + settled es

bit_cases : (w i : ℕ) → (bit_of w i ≡ 0) ⊎ (bit_of w i ≡ 1)
bit_cases w i = go (bit_of w i) (bit_of-lt w i)
  where
    go : (b : ℕ) → b < 2 → (b ≡ 0) ⊎ (b ≡ 1)
    go zero lt = inl refl
    go (suc n) lt = inr (omega arith)

module _ (nodes : List Node) (order : List Encoding) (w start : ℕ) (all : List Encoding) where
  pub begins : (root : ℕ) → Decides nodes order root all → Reached nodes order w start start root all
  begins root is = record { es = all; here = is; back = λ out h. h; cost = omega arith }

  -- the node that follows is the one for the leaves that agree with the word
  chosen : (k i below above : ℕ) (es : List Encoding) → IsTest nodes order k i below above es → (next : ℕ) → next ≡ cond (bit_of w i == 0) below above → Decides nodes order next (agreeing i (bit_of w i) es)
  chosen k i below above es t next is = go (bit_cases w i)
    where
      go : (bit_of w i ≡ 0) ⊎ (bit_of w i ≡ 1) → Decides nodes order next (agreeing i (bit_of w i) es)
      go (inl bit) = subst (λ v. Decides nodes order next (agreeing i v es)) (sym bit) (subst (λ n. Decides nodes order n (agreeing i 0 es)) (sym (is ∙ ap (λ v. cond (v == 0) below above) bit)) t.below_is)
      go (inr bit) = subst (λ v. Decides nodes order next (agreeing i v es)) (sym bit) (subst (λ n. Decides nodes order n (agreeing i 1 es)) (sym (is ∙ ap (λ v. cond (v == 0) below above) bit)) t.above_is)

  pub steps_on : (k i below above now now' next : ℕ) → slice_get nodes k ≡ Some (Test i below above) → now' ≡ now + 1 → next ≡ cond (bit_of w i == 0) below above
      → Reached nodes order w start now k all → Reached nodes order w start now' next all
  steps_on k i below above now now' next at more is r =
      let t = test_is nodes order k i below above r.es at r.here in
      record {
        es = agreeing i (bit_of w i) r.es;
        here = chosen k i below above r.es t next is;
        back = λ out h. r.back out (narrow r.es i t.next h);
        cost = omega (arith, more, r.cost, settled_grows i (bit_of w i) r.es t.next (bit_cases w i));
      }

  pub falls : (k i below above now next : ℕ) → slice_get nodes k ≡ Some (Test i below above) → next ≡ cond (bit_of w i == 0) below above → Reached nodes order w start now k all → next < k
  falls k i below above now next at is r = go (bit_of w i == 0) is (test_is nodes order k i below above r.es at r.here)
    where
      go : (b : Bool) → next ≡ cond b below above → IsTest nodes order k i below above r.es → next < k
      go true is t = omega (arith, is, t.below_before)
      go false is t = omega (arith, is, t.above_before)

  pub tested_bit : (k i below above now : ℕ) → slice_get nodes k ≡ Some (Test i below above) → Reached nodes order w start now k all → i < 32
  tested_bit k i below above now at r = (next_bit_splits i r.es (test_is nodes order k i below above r.es at r.here).next).0

  pub ends : (k from to now : ℕ) → slice_get nodes k ≡ Some (Leaves from to) → Reached nodes order w start now k all → Bucket w (slice_range order from to) all
  ends k from to now at r = let l = leaves_is nodes order k from to r.es at r.here in r.back (slice_range order from to) (stop r.es l.none (sym l.is))

  pub ends_within : (k from to now : ℕ) → slice_get nodes k ≡ Some (Leaves from to) → Reached nodes order w start now k all → (from ≤ to) × (to ≤ length order)
  ends_within k from to now at r = let l = leaves_is nodes order k from to r.es at r.here in (l.ends, l.within)

  pub costs : (k now : ℕ) → Reached nodes order w start now k all → now ≤ start + 32
  costs k now r = omega (arith, r.cost, settled_most r.es)

  pub stands : (k now : ℕ) → Reached nodes order w start now k all → k < length nodes
  stands k now r = decides_within nodes order k r.es r.here
