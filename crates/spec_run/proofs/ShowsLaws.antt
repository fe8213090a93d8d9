-- The full line of a word shows what it is to show.
use Rattle.std.proofs.Common.{◌≡◌, ◌∙◌, ap, sym, subst, refl, ℕ, ◌<◌, List, [], ◌∷◌, ◌++◌, length, Option, Some, None, append_assoc, codes}
use Rattle.std.specs.Prelude.{slice_index_or}
use Rattle.spec_expressions.specs.Truth.{Truth, No}
use Rattle.spec_decode.specs.Verdict.{verdict, IsVerdict}
use Rattle.spec_decode.specs.Found.{Candidate, found}
use Rattle.spec_decode.specs.Preferred.{preferred}
use Rattle.spec_decode.specs.Machine.{Machine}
use Rattle.spec_decode.proofs.FoundLaws.{found_is_exact}
use Rattle.spec_decode.proofs.VerdictLaws.{verdicts_are_exact}
use Rattle.spec_decode.proofs.PreferredLaws.{preferred_is_exact}
use Rattle.spec_encoding.specs.PathLayout.{rest_of}
use Rattle.spec_encoding.specs.Encoding.{own_pairs}
use Rattle.spec_instructions.specs.Aliases.{alias_label}
use Rattle.spec_instructions.specs.Paths.{label}
use Rattle.spec_lines.specs.Pairs.{pairs_text}
use Rattle.spec_lines.specs.Way.{way_path, way_by, way_of}
use Rattle.spec_lines.specs.LoneLeaf.{lone_by}
use Rattle.spec_lines.specs.FullLine.{lone_text, leaves_text, full_line}
use Rattle.spec_lines.specs.Encoded.{TellsWord}
use Rattle.spec_run.specs.Shows.{leaf_path, AreListed, ShowsLone, Shows, IsLine}

module _ (machine : Machine) (w : ℕ) where
  abbrev verdict_of : ℕ → Truth
  verdict_of k = verdict (leaf_path machine w k) machine.configuration w

  abbrev IsLeaf : Candidate → Type 0
  IsLeaf c = (c.leaf < length machine.paths) × IsVerdict (leaf_path machine w c.leaf) machine.configuration w c.verdict

  leaf_is : (k : ℕ) (t : Truth) → verdict_of k ≡ t → IsVerdict (leaf_path machine w k) machine.configuration w t
  leaf_is k t e = subst (IsVerdict (leaf_path machine w k) machine.configuration w) e (verdicts_are_exact (leaf_path machine w k) machine.configuration w)

  found_are_listed : AreListed machine w (found machine.paths machine.configuration w)
  found_are_listed =
      let are = found_is_exact machine.paths machine.configuration w in
      record {
        exactly = λ k low. let is = verdicts_are_exact (leaf_path machine w k) machine.configuration w in (
          (λ some excludes.
              let one = are.each some.0 some.1 some.2 in
              let c : Candidate = slice_index_or (found machine.paths machine.configuration w) some.0 some.1 in
              let here : c ≡ some.1 = some.3 in
              let number : c.leaf ≡ k = ap (λ (c : Candidate). c.leaf) here ∙ some.4 in
              let no : verdict_of c.leaf ≡ No = ap verdict_of number ∙ is.no.1 excludes in
              one.2 (sym one.1 ∙ no)),
          (λ holds.
              let c : Candidate = record { leaf = k; verdict = verdict_of k } in
              let one = are.every k low (λ no. holds (is.no.0 no)) in
              (one.0, c, one.1, one.2, refl)),
        );
        each = λ k d low. let one = are.each k d low in (one.0, leaf_is _ _ one.1);
        order = are.order;
      }

  -- a lone leaf, by its preferred alias or by itself
  lone_shows : (c : Candidate) → TellsWord (way_path machine (way_of machine c.leaf w)) machine.configuration w → ShowsLone machine w c (lone_text c.verdict ++ lone_by machine c.leaf w (way_of machine c.leaf w))
  lone_shows c = go (preferred machine.aliases c.leaf machine.configuration w) refl
    where
      go : (o : Option ℕ) → preferred machine.aliases c.leaf machine.configuration w ≡ o → TellsWord (way_path machine (way_by c.leaf o)) machine.configuration w
          → ShowsLone machine w c (lone_text c.verdict ++ lone_by machine c.leaf w (way_by c.leaf o))
      go None e tells = record {
        way = way_by c.leaf None;
        told_by = (refl, (preferred_is_exact machine.aliases c.leaf machine.configuration w).none.0 e);
        pairs = own_pairs (way_path machine (way_by c.leaf None)) w;
        rest = rest_of (way_path machine (way_by c.leaf None)) w;
        alone = λ u. (tells.only u, λ same. rw same tells.encodes);
        is = refl;
      }
      go (Some a) e tells = record {
        way = way_by c.leaf (Some a);
        told_by = ((preferred_is_exact machine.aliases c.leaf machine.configuration w).some a).0 e;
        pairs = own_pairs (way_path machine (way_by c.leaf (Some a))) w;
        rest = rest_of (way_path machine (way_by c.leaf (Some a))) w;
        alone = λ u. (tells.only u, λ same. rw same tells.encodes);
        is = ap (λ text. lone_text c.verdict ++ (label machine.paths c.leaf ++ text)) (sym (append_assoc (codes " alias ") (alias_label machine.aliases a) (pairs_text (way_path machine (way_by c.leaf (Some a))) w)));
      }

  -- the full line of a word, whose lone leaf tells the word
  pub full_line_shows : (offset : ℕ) → ((c : Candidate) → found machine.paths machine.configuration w ≡ c ∷ [] → TellsWord (way_path machine (way_of machine c.leaf w)) machine.configuration w)
      → IsLine machine w offset (full_line machine offset w)
  full_line_shows offset tells = record {
    leaves = found machine.paths machine.configuration w;
    listed = found_are_listed;
    text = leaves_text machine w (found machine.paths machine.configuration w);
    shows = go (found machine.paths machine.configuration w) refl;
    is = refl;
  }
    where
      go : (cs : List Candidate) → found machine.paths machine.configuration w ≡ cs → Shows machine w cs (leaves_text machine w cs)
      go [] e = refl
      go (c ∷ []) e = lone_shows c (tells c e)
      go (c ∷ d ∷ cs) e = refl
