-- The leaves in a bucket are leaves of the tree, and those found among them are all that are found.
use Rattle.std.proofs.Common.{◌≡◌, ◌∙◌, sym, ap, subst, refl, ℕ, suc, ◌+◌, ◌<◌, ◌≤◌, List, [], ◌∷◌, ◌++◌, length, map, length-append, All, Bool, true, false, cond, arith, Option, Some, None}
use Rattle.std.specs.Prelude.{slice_index_or, filter}
use Rattle.std.specs.List.{AllByRecursion}
use Rattle.std.proofs.lemmas.List.{length-map}
use Rattle.std.proofs.lemmas.List.Elements.{All-from_recursion}
use Rattle.spec_bits.specs.Bits.{bit_of}
use Rattle.spec_bits.specs.Pattern.{Digit}
use Rattle.spec_expressions.specs.Scope.{Configuration}
use Rattle.spec_instructions.specs.Tree.{Own}
use Rattle.spec_instructions.specs.Fields.{merged}
use Rattle.spec_decode.specs.Found.{Candidate, found}
use Rattle.spec_decode.specs.Bucket.{Encoding, with_encoding, encodings_from, encodings, fixes_to, agreeing, Bucket, stop, narrow, found_among}
use Rattle.spec_decode.proofs.BucketLaws.{buckets_are_one, buckets_hold_found}
use Rattle.mrs_arena.specs.Placed.{leaves_of, path_to}
use Rattle.insn_tree.specs.Trees.{TreeParts, tree_paths}
use Rattle.insn_decode.specs.declared.found.Found.{Found}
use Rattle.insn_decode.specs.declared.member.Member.{Member}
use Rattle.insn_decode.specs.Members.{encoding_of}
use Rattle.insn_decode.specs.Deciders.{DeciderParts, Tells, IsDeciderOf}
use Rattle.insn_decode.specs.Judged.{IsMemberOf, IsFound}

module _ (all : List (List Own)) where
  -- a leaf of these paths, with what its path fixes
  abbrev pub IsOf : Encoding → Type 0
  IsOf e = (e.leaf < length all) × (merged (slice_index_or all e.leaf []) ≡ Some e.digits)

  kept : (p : Encoding → Bool) (es : List Encoding) → AllByRecursion IsOf es → AllByRecursion IsOf (filter p es)
  kept p [] h = tt
  kept p (e ∷ es) h = go (p e) (kept p es h.1)
    where
      go : (b : Bool) → AllByRecursion IsOf (filter p es) → AllByRecursion IsOf (cond b (e ∷ filter p es) (filter p es))
      go true rest = (h.0, rest)
      go false rest = rest

  in_bucket : (w : ℕ) (out es : List Encoding) → Bucket w out es → AllByRecursion IsOf es → AllByRecursion IsOf out
  in_bucket w out es (stop _ none is) h = subst (AllByRecursion IsOf) is h
  in_bucket w out es (narrow _ i some rest) h = in_bucket w out (agreeing i (bit_of w i) es) rest (unfold agreeing in kept (fixes_to i (bit_of w i)) es h)

  encoded : (k : ℕ) (paths : List (List Own)) → k + length paths ≡ length all → ((j : ℕ) → slice_index_or all (k + j) [] ≡ slice_index_or paths j []) → AllByRecursion IsOf (encodings_from k paths)
  encoded k [] count agree = tt
  encoded k (path ∷ paths) count agree =
      go (merged path) refl (encoded (k + 1) paths (omega (arith, count)) (λ j. ap (λ n. slice_index_or all n []) (let z : k + 1 + j ≡ k + suc j = omega arith in z) ∙ agree (suc j)))
    where
      go : (o : Option (List Digit)) → merged path ≡ o → AllByRecursion IsOf (encodings_from (k + 1) paths) → AllByRecursion IsOf (with_encoding k o (encodings_from (k + 1) paths))
      go None is rest = rest
      go (Some ds) is rest = ((omega (arith, count), ap merged (ap (λ n. slice_index_or all n []) (let z : k ≡ k + 0 = omega arith in z) ∙ agree 0) ∙ is), rest)

  pub bucket_of : (w : ℕ) (out : List Encoding) → Bucket w out (encodings all) → All IsOf out
  bucket_of w out is =
      All-from_recursion _ _ (in_bucket w out (encodings all) is (encoded 0 all (omega arith) (λ j. ap (λ n. slice_index_or all n []) (let z : 0 + j ≡ j = omega arith in z))))

-- the leaves in a bucket are the tree's
pub members_of_tree : (tree : TreeParts) (d : DeciderParts) (w : ℕ) (members : List Member) → IsDeciderOf tree d → ((es : List Encoding) → Tells d es → Bucket w (map encoding_of members) es) → All (IsMemberOf tree) (map encoding_of members)
members_of_tree tree d w members of bucket k e lt =
    let one : (names : List (List ℕ)) → IsOf (tree_paths names tree) (slice_index_or (map encoding_of members) k e) = λ names. bucket_of (tree_paths names tree) w (map encoding_of members) (bucket (encodings (tree_paths names tree)) (of.tells names)) k e lt in
    let within : (slice_index_or (map encoding_of members) k e).leaf < length (leaves_of tree.nodes) = omega (arith, (one []).0, length-map (leaves_of tree.nodes) (path_to [] tree.nodes)) in
    record {
      leaf = within;
      fixed = λ names. (one names).1;
      within = λ names. of.within names (slice_index_or (map encoding_of members) k e).leaf [] (one names).0;
    }

-- those found among the bucket's leaves are all that are found
pub all_found : (tree : TreeParts) (d : DeciderParts) (names : List (List ℕ)) (g : Configuration) (w : ℕ) (members : List Member) → IsDeciderOf tree d → ((es : List Encoding) → Tells d es → Bucket w (map encoding_of members) es)
    → found_among (map encoding_of members) (tree_paths names tree) g w ≡ found (tree_paths names tree) g w
all_found tree d names g w members of bucket = (buckets_hold_found (tree_paths names tree) g w (map encoding_of members) (of.within names) (bucket (encodings (tree_paths names tree)) (of.tells names))).among

pub found_whole : (tree : TreeParts) (d : DeciderParts) (names : List (List ℕ)) (g : Configuration) (w : ℕ) (members : List Member) (answer : Found) → IsDeciderOf tree d → ((es : List Encoding) → Tells d es → Bucket w (map encoding_of members) es)
    → IsFound answer (found_among (map encoding_of members) (tree_paths names tree) g w) → IsFound answer (found (tree_paths names tree) g w)
found_whole tree d names g w members answer of bucket is = subst (λ (cs : List Candidate). IsFound answer cs) (all_found tree d names g w members of bucket) is

pub bucket_count : (tree : TreeParts) (d : DeciderParts) (names : List (List ℕ)) (w : ℕ) (members : List Member) (other : List Encoding) → IsDeciderOf tree d → ((es : List Encoding) → Tells d es → Bucket w (map encoding_of members) es)
    → Bucket w other (encodings (tree_paths names tree)) → length members ≡ length other
bucket_count tree d names w members other of bucket is =
    sym (length-map members encoding_of) ∙ ap (λ (es : List Encoding). length es) (buckets_are_one w (map encoding_of members) other (encodings (tree_paths names tree)) (bucket (encodings (tree_paths names tree)) (of.tells names)) is)

-- no more leaves are without clashes than there are
few_from : (k : ℕ) (paths : List (List Own)) → length (encodings_from k paths) ≤ length paths
few_from k [] = omega arith
few_from k (path ∷ paths) = go (merged path) (few_from (k + 1) paths)
  where
    go : (o : Option (List Digit)) → length (encodings_from (k + 1) paths) ≤ length paths → length (with_encoding k o (encodings_from (k + 1) paths)) ≤ length (path ∷ paths)
    go None rest = omega (arith, rest)
    go (Some digits) rest = omega (arith, rest)

pub few_members : (tree : TreeParts) (members : List Member) (rest : List Encoding) (limit : ℕ) → length (leaves_of tree.nodes) ≤ limit → map encoding_of members ++ rest ≡ encodings (tree_paths [] tree) → length members ≤ limit
few_members tree members rest limit few is =
    let same : length (map encoding_of members ++ rest) ≡ length (encodings (tree_paths [] tree)) = ap (λ (es : List Encoding). length es) is in
    omega (arith, few, same, length-append (map encoding_of members) rest, length-map members encoding_of, few_from 0 (tree_paths [] tree), length-map (leaves_of tree.nodes) (path_to [] tree.nodes))
