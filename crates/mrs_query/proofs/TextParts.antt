-- A text that goes out in several writes.
use Rattle.std.proofs.Common.{◌≡◌, ℕ, ◌+◌, ◌≤◌, List, [], ◌∷◌, ◌++◌, length, get_or, map, drop, ◌<◌, Option, refl, sym, ◌∙◌, subst, arith, append_assoc, append-nil, length-append}
use Rattle.std.proofs.Math.Seq.{take-append-add}
use Rattle.std.proofs.lemmas.List.{take-append-le, at_drop_more}
use Rattle.std.specs.Io.KnownBytes.{Appends}
use Rattle.std.proofs.KnownBytes.{Appends-nil, Appends-trans}
use Rattle.mrs_io.specs.Pieces.{AppendsPart}
use Rattle.mrs_query.specs.Texts.{joined}

-- a part of the front is a part of the whole
pub part_front : (a b : Option (List ℕ)) (xs ys : List ℕ) → AppendsPart a b xs → AppendsPart a b (xs ++ ys)
part_front a b xs ys h = record {
  count = h.count;
  short = omega (arith, h.short, length-append xs ys);
  front = let le : h.count ≤ length xs = omega (arith, h.short) in subst (Appends a b) (sym (take-append-le h.count xs ys le)) h.front;
}

-- the front, and then a part of what is behind it
pub part_then : (a b c : Option (List ℕ)) (xs ys : List ℕ) → Appends a b xs → AppendsPart b c ys → AppendsPart a c (xs ++ ys)
part_then a b c xs ys first h = record {
  count = length xs + h.count;
  short = omega (arith, h.short, length-append xs ys);
  front = subst (Appends a c) (sym (take-append-add xs ys h.count)) (Appends-trans a b c xs _ first h.front);
}

-- ---- the parts of a text, of which some have gone out

pub record PartsLeft (before now : Option (List ℕ)) (left : List (List ℕ)) (text : List ℕ) : Type 0 where
  pub done : List ℕ
  pub went : Appends before now done
  pub whole : done ++ joined left ≡ text

pub PartsLeft-begin : (now : Option (List ℕ)) (parts : List (List ℕ)) → PartsLeft now now parts (joined parts)
PartsLeft-begin now parts = record { done = []; went = Appends-nil now; whole = refl }

-- one more part goes out
pub PartsLeft-next : (before now next : Option (List ℕ)) (part : List ℕ) (left : List (List ℕ)) (text : List ℕ) → PartsLeft before now (part ∷ left) text → Appends now next part → PartsLeft before next left text
PartsLeft-next before now next part left text h went = record {
  done = h.done ++ part;
  went = Appends-trans before now next h.done part h.went went;
  whole = append_assoc h.done part (joined left) ∙ h.whole;
}

-- a part goes out in part
pub PartsLeft-cut : (before now next : Option (List ℕ)) (part : List ℕ) (left : List (List ℕ)) (text : List ℕ) → PartsLeft before now (part ∷ left) text → AppendsPart now next part → AppendsPart before next text
PartsLeft-cut before now next part left text h cut = subst (AppendsPart before next) h.whole (part_then before now next h.done (part ++ joined left) h.went (part_front now next part (joined left) cut))

pub PartsLeft-end : (before now : Option (List ℕ)) (text : List ℕ) → PartsLeft before now [] text → Appends before now text
PartsLeft-end before now text h = subst (Appends before now) (sym (append-nil h.done) ∙ h.whole) h.went

-- the next part of a list of them
pub PartsLeft-at : {X : Type 0} (f : X → List ℕ) (before now : Option (List ℕ)) (text : List ℕ) (xs : List X) (i : ℕ) (d : X) → i < length xs → PartsLeft before now (map f (drop i xs)) text → PartsLeft before now (f (get_or xs i d) ∷ map f (drop (i + 1) xs)) text
PartsLeft-at f before now text xs i d within h = subst (λ ps. PartsLeft before now ps text) (at_drop_more (map f) xs i d within) h
