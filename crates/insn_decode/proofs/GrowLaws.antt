-- Nodes stay what they are while the arrays grow, and what a new node stands for.
use Rattle.std.proofs.Common.{◌≡◌, ◌∙◌, sym, ap, subst, refl, ℕ, zero, suc, ◌+◌, ◌-◌, ◌<◌, ◌≤◌, List, [], ◌∷◌, ◌++◌, length, map, take, drop, Some, None, arith, length-append, length-drop, append_assoc, append-nil}
use Rattle.std.specs.Prelude.{slice_get, slice_range, Result, Ok, Err, IfOk, OnOk}
use Rattle.std.proofs.lemmas.List.{length-map, take-append-le, drop-append-le}
use Rattle.std.proofs.Math.Seq.{drop-append_seam, take-length}
use Rattle.std.proofs.lemmas.Option.{slice_get_within}
use Rattle.spec_decode.specs.Bucket.{Encoding, next_bit, agreeing}
use Rattle.insn_decode.specs.declared.member.Member.{Member}
use Rattle.insn_decode.specs.declared.node.Node.{Node}
use Rattle.insn_decode.specs.declared.node.Node.TheVariants.{Leaves, Test}
use Rattle.insn_decode.specs.Members.{encoding_of}
use Rattle.insn_decode.specs.Decides.{Decides, run, branch, Extends}
use Rattle.insn_decode.proofs.DecideLaws.{decides_within}

-- ---- lists that grow

pub extends_on : {X : Type 0} (xs ys zs : List X) → Extends xs ys → Extends ys zs → Extends xs zs
extends_on xs ys zs first second = (first.0 ++ second.0, second.1 ∙ ap (λ l. l ++ second.0) first.1 ∙ append_assoc xs first.0 second.0)

map-append : (xs ys : List Member) → map encoding_of (xs ++ ys) ≡ map encoding_of xs ++ map encoding_of ys
map-append [] ys = refl
map-append (x ∷ xs) ys = ap (λ l. encoding_of x ∷ l) (map-append xs ys)

pub extends_map : (xs ys : List Member) → Extends xs ys → Extends (map encoding_of xs) (map encoding_of ys)
extends_map xs ys h = (map encoding_of h.0, ap (λ (l : List Member). map encoding_of l) h.1 ∙ map-append xs h.0)

got_still : {X : Type 0} (xs ys : List X) (k : ℕ) (x : X) → slice_get xs k ≡ Some x → slice_get (xs ++ ys) k ≡ Some x
got_still [] ys k x at = absurd (let lt : k < 0 = slice_get_within [] k x at in omega (arith, lt))
got_still (y ∷ xs) ys zero x at = at
got_still (y ∷ xs) ys (suc k) x at = got_still xs ys k x at

got_last : {X : Type 0} (xs : List X) (x : X) → slice_get (xs ++ x ∷ []) (length xs) ≡ Some x
got_last [] x = refl
got_last (y ∷ xs) x = got_last xs x

range_still : (from to : ℕ) (xs ys : List Encoding) → from ≤ to → to ≤ length xs → slice_range (xs ++ ys) from to ≡ slice_range xs from to
range_still from to xs ys le within =
    ap (take (to - from)) (drop-append-le from xs ys (omega arith)) ∙ take-append-le (to - from) (drop from xs) ys (omega (arith, length-drop from xs))

range_behind : (from to : ℕ) (xs ys : List Encoding) → from ≡ length xs → to ≡ length (xs ++ ys) → slice_range (xs ++ ys) from to ≡ ys
range_behind from to xs ys left right =
    ap (λ n. take (to - n) (drop n (xs ++ ys))) left
    ∙ ap (take (to - length xs)) (drop-append_seam xs ys)
    ∙ ap (λ n. take n ys) (let z : to - length xs ≡ length ys = omega (arith, right, length-append xs ys) in z)
    ∙ take-length ys

-- ---- nodes stay what they are

module _ (nodes more : List Node) (order also : List Encoding) where
  still : (k : ℕ) (es : List Encoding) → Decides nodes order k es → Decides (nodes ++ more) (order ++ also) k es
  still k es (run _ from to _ at none ends within is) =
      run k from to es (got_still nodes more k (Leaves from to) at) none ends (omega (arith, within, length-append order also)) (range_still from to order also ends within ∙ is)
  still k es (branch _ i below above _ at next b a db da) =
      branch k i below above es (got_still nodes more k (Test i below above) at) next b a (still below (agreeing i 0 es) db) (still above (agreeing i 1 es) da)

decides_still : (nodes nodes' : List Node) (order order' : List Member) (k : ℕ) (es : List Encoding) → Extends nodes nodes' → Extends order order'
    → Decides nodes (map encoding_of order) k es → Decides nodes' (map encoding_of order') k es
decides_still nodes nodes' order order' k es ns os is =
    let more = extends_map order order' os in
    subst (λ n. Decides n (map encoding_of order') k es) (sym ns.1) (subst (λ o. Decides (nodes ++ ns.0) o k es) (sym more.1) (still nodes ns.0 (map encoding_of order) more.0 k es is))

-- ---- new nodes

pub leaves_grown : (nodes nodes' : List Node) (order order' members : List Member) (from to k : ℕ) → next_bit (map encoding_of members) ≡ None → order' ≡ order ++ members
    → from ≡ length order → to ≡ length order' → k ≡ length nodes → nodes' ≡ nodes ++ Leaves from to ∷ [] → Decides nodes' (map encoding_of order') k (map encoding_of members)
leaves_grown nodes nodes' order order' members from to k none os left right number ns =
    let split : map encoding_of order' ≡ map encoding_of order ++ map encoding_of members = ap (λ (l : List Member). map encoding_of l) os ∙ map-append order members in
    let count : length (map encoding_of order') ≡ length order' = length-map order' encoding_of in
    let first : from ≡ length (map encoding_of order) = left ∙ sym (length-map order encoding_of) in
    let last : to ≡ length (map encoding_of order ++ map encoding_of members) = right ∙ sym count ∙ ap (λ (l : List Encoding). length l) split in
    let lengths : length order' ≡ length order + length members = ap (λ (l : List Member). length l) os ∙ length-append order members in
    run k from to (map encoding_of members)
    (ap (λ l. slice_get l k) ns ∙ ap (slice_get (nodes ++ Leaves from to ∷ [])) number ∙ got_last nodes (Leaves from to))
    none (omega (arith, left, right, lengths)) (omega (arith, right, count))
    (ap (λ l. slice_range l from to) split ∙ range_behind from to (map encoding_of order) (map encoding_of members) first last)

pub test_grown : (nodes nodes' nodes'' : List Node) (order order' : List Member) (es : List Encoding) (i below above k : ℕ) → next_bit es ≡ Some i
    → Decides nodes (map encoding_of order) below (agreeing i 0 es) → Extends nodes nodes' → Extends order order' → Decides nodes' (map encoding_of order') above (agreeing i 1 es)
    → k ≡ length nodes' → nodes'' ≡ nodes' ++ Test i below above ∷ [] → Decides nodes'' (map encoding_of order') k es
test_grown nodes nodes' nodes'' order order' es i below above k next low ns os high number last =
    let grown : Extends nodes nodes'' = extends_on nodes nodes' nodes'' ns (Test i below above ∷ [], last) in
    let lengths : length nodes' ≡ length nodes + length ns.0 = ap (λ (l : List Node). length l) ns.1 ∙ length-append nodes ns.0 in
    branch k i below above es
    (ap (λ l. slice_get l k) last ∙ ap (slice_get (nodes' ++ Test i below above ∷ [])) number ∙ got_last nodes' (Test i below above))
    next
    (omega (arith, number, lengths, decides_within nodes (map encoding_of order) below (agreeing i 0 es) low))
    (omega (arith, number, decides_within nodes' (map encoding_of order') above (agreeing i 1 es) high))
    (decides_still nodes nodes'' order order' below (agreeing i 0 es) grown os low)
    (decides_still nodes' nodes'' order' order' above (agreeing i 1 es) (Test i below above ∷ [], last) ([], sym (append-nil order')) high)

-- ---- where the number of the new node is what a call answered

pub leaves_pushed : {E : Type 0} (answer : Result ℕ E) (nodes nodes' : List Node) (order order' members : List Member) (from to : ℕ) → next_bit (map encoding_of members) ≡ None → order' ≡ order ++ members
    → from ≡ length order → to ≡ length order' → IfOk answer (λ k. k ≡ length nodes) → OnOk answer (nodes' ≡ nodes ++ Leaves from to ∷ []) → IfOk answer (λ k. Decides nodes' (map encoding_of order') k (map encoding_of members))
leaves_pushed (Ok k) nodes nodes' order order' members from to none os left right number ns = leaves_grown nodes nodes' order order' members from to k none os left right number ns
leaves_pushed (Err e) nodes nodes' order order' members from to none os left right number ns = tt

pub test_pushed : {E : Type 0} (answer : Result ℕ E) (nodes nodes' nodes'' : List Node) (order order' lows with_zero highs with_one members : List Member) (i below above : ℕ) → next_bit (map encoding_of members) ≡ Some i
    → lows ≡ with_zero → map encoding_of with_zero ≡ agreeing i 0 (map encoding_of members) → Decides nodes (map encoding_of order) below (map encoding_of lows)
    → Extends nodes nodes' → Extends order order'
    → highs ≡ with_one → map encoding_of with_one ≡ agreeing i 1 (map encoding_of members) → Decides nodes' (map encoding_of order') above (map encoding_of highs)
    → IfOk answer (λ k. k ≡ length nodes') → OnOk answer (nodes'' ≡ nodes' ++ Test i below above ∷ []) → IfOk answer (λ k. Decides nodes'' (map encoding_of order') k (map encoding_of members))
test_pushed (Ok k) nodes nodes' nodes'' order order' lows with_zero highs with_one members i below above next lent zeros low ns os lent' ones high number last =
    let all : List Encoding = map encoding_of members in
    let zero_side : map encoding_of lows ≡ agreeing i 0 all = ap (λ (l : List Member). map encoding_of l) lent ∙ zeros in
    let one_side : map encoding_of highs ≡ agreeing i 1 all = ap (λ (l : List Member). map encoding_of l) lent' ∙ ones in
    test_grown nodes nodes' nodes'' order order' all i below above k next
    (subst (λ (es : List Encoding). Decides nodes (map encoding_of order) below es) zero_side low) ns os
    (subst (λ (es : List Encoding). Decides nodes' (map encoding_of order') above es) one_side high) number last
test_pushed (Err e) nodes nodes' nodes'' order order' lows with_zero highs with_one members i below above next lent zeros low ns os lent' ones high number last = tt
