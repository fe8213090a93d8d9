-- What the hints from a place on lead to, one hint at a time.
use Rattle.std.proofs.Common.{◌≡◌, ℕ, ◌+◌, ◌<◌, ℤ, false, List, ◌∷◌, length, get_or, drop, Some, sym, ap, ◌∙◌, arith}
use Rattle.std.proofs.lemmas.List.{drop_more}
use Rattle.std.specs.Option.{option_map_or, option_and_then}
use Rattle.spec_refutation.specs.Derivation.{open_literals, the_only, clause_numbered, leads}

module _ (known : List (List ℤ)) (set : List ℤ) (hs : List ℕ) (i h : ℕ) (here : h ≡ get_or hs i 0) where
  -- a hint before the last
  earlier : i + 1 < length hs → leads known set (drop i hs)
      ≡ option_map_or (λ l. leads known (l ∷ set) (drop (i + 1) hs)) (option_and_then (λ c. the_only (open_literals set c)) (clause_numbered known h)) false
  earlier e =
      let next : drop (i + 1) hs ≡ get_or hs (i + 1) 0 ∷ drop (i + 1 + 1) hs = drop_more hs (i + 1) 0 e in
      let whole : drop i hs ≡ get_or hs i 0 ∷ get_or hs (i + 1) 0 ∷ drop (i + 1 + 1) hs = drop_more hs i 0 (omega arith) ∙ ap (λ t. get_or hs i 0 ∷ t) next in
      ap (leads known set) whole
      ∙ ap (λ t. option_map_or (λ l. leads known (l ∷ set) t) (option_and_then (λ c. the_only (open_literals set c)) (clause_numbered known (get_or hs i 0))) false) (sym next)
      ∙ ap (λ k. option_map_or (λ l. leads known (l ∷ set) (drop (i + 1) hs)) (option_and_then (λ c. the_only (open_literals set c)) (clause_numbered known k)) false) (sym here)

  module _ (c : List ℤ) (found : Some c ≡ clause_numbered known h) where
    one : i + 1 < length hs → leads known set (drop i hs) ≡ option_map_or (λ l. leads known (l ∷ set) (drop (i + 1) hs)) (the_only (open_literals set c)) false
    one lt = earlier lt ∙ ap (λ o. option_map_or (λ l. leads known (l ∷ set) (drop (i + 1) hs)) (option_and_then (λ c. the_only (open_literals set c)) o) false) (sym found)

    -- a hint before the last, at a clause with one open literal
    pub leads_on : (l : ℤ) → i + 1 < length hs → Some l ≡ the_only (open_literals set c)
        → leads known set (drop i hs) ≡ leads known (l ∷ set) (drop (i + 1) hs)
    leads_on l lt some = one lt ∙ ap (λ o. option_map_or (λ l. leads known (l ∷ set) (drop (i + 1) hs)) o false) (sym some)
