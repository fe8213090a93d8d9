-- Where the lines of a text end before all are read, or more follows.
use Rattle.std.proofs.Common.{◌≡◌, ◌≢◌, ℕ, ◌+◌, ◌-◌, ℤ, List, [], ◌++◌, length, refl, sym, ap, ◌∙◌, inr, ⊎_elim, arith, length-append}
use Rattle.std.specs.Prelude.{flat_map}
use Rattle.std.proofs.lemmas.Bool.{cases_lt}
use Rattle.std.proofs.lemmas.List.{append_assoc}
use Rattle.spec_refutation.specs.Derivation.{Step}
use Rattle.spec_refutation.specs.Text.{first_line, clause_line, step_line}
use Rattle.spec_refutation.specs.Reading.{AreCounts, Stops, IsFault}
use Rattle.spec_refutation.specs.Reading.Stops.{at_clause, at_step, at_end}
use Rattle.spec_refutation.specs.Scans.{LinesEnd}

module _ (v c s : ℕ) (t : List ℕ) (cs : List (List ℤ)) (ss : List Step) (rest : List ℕ) (lines : LinesEnd v c s t cs ss rest) where
  stops : (length cs ≡ c → length ss ≡ s → rest ≢ []) → Stops v c s cs ss rest
  stops more = ⊎_elim
      (λ lt. let due = lines.due_clause lt in at_clause lt due.0 due.1)
      (λ ge.
      let all : length cs ≡ c = omega (arith, ge, lines.few_clauses) in
      ⊎_elim (λ lt. at_step all lt (lines.due_step all lt)) (λ ge. let ends : length ss ≡ s = omega (arith, ge, lines.few_steps) in at_end all ends (more all ends)) (cases_lt (length ss) s))
      (cases_lt (length cs) c)

  pub stopped : (text : List ℕ) (at : ℕ) → AreCounts v c s → text ≡ first_line v c s ++ t
      → (length cs ≡ c → length ss ≡ s → rest ≢ []) → at ≡ length text - length rest → IsFault text at
  stopped text at counts first more place =
      let front : List ℕ = first_line v c s ++ (flat_map clause_line cs ++ flat_map step_line ss) in
      let whole : text ≡ front ++ rest =
      first ∙ ap (λ z. first_line v c s ++ z) (lines.read ∙ sym (append_assoc (flat_map clause_line cs) (flat_map step_line ss) rest))
      ∙ sym (append_assoc (first_line v c s) (flat_map clause_line cs ++ flat_map step_line ss) rest) in
      let len : length text ≡ length front + length rest = ap length whole ∙ length-append front rest in
      inr (record {
        vars = v;
        clause_count = c;
        step_count = s;
        counts = counts;
        clauses = cs;
        steps = ss;
        each_clause = lines.each_clause;
        each_step = lines.each_step;
        front = front;
        front_is = refl;
        rest = rest;
        text_is = whole;
        place = omega (arith, place, len);
        stops = stops more;
      })
