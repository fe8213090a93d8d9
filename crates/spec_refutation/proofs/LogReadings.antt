-- A text is read as the log whose text it is, and else to the place where it is not as demanded.
use Rattle.std.proofs.Common.{◌≡◌, ◌≢◌, inl, inr, ℕ, zero, suc, ◌+◌, ◌-◌, ◌^◌, ◌<◌, ℤ, List, [], ◌∷◌, ◌++◌, length, Option, Some, None, Result, Ok, Err, refl, sym, ap, ◌∙◌, append-nil, length-append, arith}
use Rattle.std.specs.Prelude.{flat_map}
use Rattle.std.specs.List.{AllByRecursion}
use Rattle.std.specs.Result.{result_map_both}
use Rattle.std.proofs.lemmas.List.{append_assoc}
use Rattle.spec_refutation.specs.Derivation.{Step}
use Rattle.spec_refutation.specs.Text.{first_line, clause_line, step_line}
use Rattle.spec_refutation.specs.Reading.{AreCounts, IsClause, IsStep, Reads, Stops, IsFault}
use Rattle.spec_refutation.specs.Reading.Stops.{at_clause, at_step, at_end}
use Rattle.spec_refutation.specs.LogReading.{Log, Counts, counts, clause, step, from_line, first_and, from_lines, ended, with_steps, with_clauses, with_counts, log_or_rest, log_in}
use Rattle.spec_refutation.proofs.LineReadings.{ExactLine}
use Rattle.spec_refutation.proofs.LogLines.{GoodCounts, counts_line, counts_exact, clause_exact, step_exact}

-- ---- so many lines

module _ {A : Type 0} (read : List (List ℕ) → Option A) (print : A → List ℕ) (Good : A → Type 0) (each : ExactLine read print Good) where
  -- no such line begins the text
  abbrev pub NoLine : List ℕ → Type 0
  NoLine text = (a : A) (rest : List ℕ) → Good a → text ≢ print a ++ rest

  none_read : (text : List ℕ) → NoLine text → from_line read text ≡ None
  none_read text none = go (from_line read text) refl
    where
      go : (found : Option (A × List ℕ)) → from_line read text ≡ found → found ≡ None
      go None e = refl
      go (Some p) e = let h = each.sound text p.1 p.0 e in absurd (none p.0 p.1 h.0 h.1)

  one_more : (n : ℕ) (a : A) (items : List A) (rest : List ℕ) → Good a
      → from_lines read (suc n) (flat_map print (a ∷ items) ++ rest) ≡ result_map_both (λ q. (a ∷ q.0, q.1)) (λ left. left) (from_lines read n (flat_map print items ++ rest))
  one_more n a items rest h =
      let text = print a ++ (flat_map print items ++ rest) in
      ap (from_lines read (suc n)) (append_assoc (print a) (flat_map print items) rest)
      ∙ ap (λ found. first_and text found (from_lines read n)) (each.complete a (flat_map print items ++ rest) h)

  -- the lines of items are read as these
  pub all_read : (items : List A) (rest : List ℕ) → AllByRecursion Good items → from_lines read (length items) (flat_map print items ++ rest) ≡ Ok (items, rest)
  all_read [] rest h = refl
  all_read (a ∷ items) rest h =
      let n : length (a ∷ items) ≡ suc (length items) = refl in
      one_more (length items) a items rest h.0 ∙ ap (result_map_both (λ q. (a ∷ q.0, q.1)) (λ left. left)) (all_read items rest h.1)

  -- where more are wanted and no line begins the rest, the rest is left
  pub rest_left : (count : ℕ) (items : List A) (rest : List ℕ) → AllByRecursion Good items → length items < count → NoLine rest → from_lines read count (flat_map print items ++ rest) ≡ Err rest
  rest_left zero items rest h few none = absurd (omega arith)
  rest_left (suc n) [] rest h few none = ap (λ found. first_and rest found (from_lines read n)) (none_read rest none)
  rest_left (suc n) (a ∷ items) rest h few none =
      one_more n a items rest h.0 ∙ ap (result_map_both (λ q. (a ∷ q.0, q.1)) (λ left. left)) (rest_left n items rest h.1 (omega (arith, few)) none)

-- ---- a log's text

module _ (vars clauses steps : ℕ) (good : AreCounts vars clauses steps) where
  abbrev n : Counts
  n = record { vars = vars; clauses = clauses; steps = steps }

  fits : clauses + steps < 2 ^ 64
  fits = omega (arith, good.few_lines)

  abbrev lines_read : List ℕ → Result Log (List ℕ)
  lines_read text = with_clauses n (from_lines (clause vars) clauses text)

  first_read : (text : List ℕ) → log_or_rest (first_line vars clauses steps ++ text) ≡ lines_read text
  first_read text = ap (with_counts (first_line vars clauses steps ++ text)) (counts_exact.complete n text good)

  abbrev steps_read : List (List ℤ) → List ℕ → Result Log (List ℕ)
  steps_read cs text = with_steps vars cs (from_lines (step vars (clauses + steps)) steps text)

  clauses_read : (cs : List (List ℤ)) (text : List ℕ) → length cs ≡ clauses → AllByRecursion (IsClause vars) cs
      → lines_read (flat_map clause_line cs ++ text) ≡ steps_read cs text
  clauses_read cs text all h = ap (λ k. with_clauses n (from_lines (clause vars) k (flat_map clause_line cs ++ text))) (sym all)
      ∙ ap (with_clauses n) (all_read (clause vars) clause_line (IsClause vars) (clause_exact vars good.few_vars) cs text h)

  all_steps_read : (cs : List (List ℤ)) (ss : List Step) (text : List ℕ) → length ss ≡ steps → AllByRecursion (IsStep vars (clauses + steps)) ss
      → steps_read cs (flat_map step_line ss ++ text) ≡ ended (record { vars = vars; clauses = cs; steps = ss }) text
  all_steps_read cs ss text all h = ap (λ k. with_steps vars cs (from_lines (step vars (clauses + steps)) k (flat_map step_line ss ++ text))) (sym all)
      ∙ ap (with_steps vars cs) (all_read (step vars (clauses + steps)) step_line (IsStep vars (clauses + steps)) (step_exact vars good.few_vars (clauses + steps) fits) ss text h)

  -- what stops the reading is left
  stopped_at : (cs : List (List ℤ)) (ss : List Step) (rest : List ℕ) → AllByRecursion (IsClause vars) cs → AllByRecursion (IsStep vars (clauses + steps)) ss
      → Stops vars clauses steps cs ss rest → lines_read (flat_map clause_line cs ++ (flat_map step_line ss ++ rest)) ≡ Err rest
  stopped_at cs ss rest g h (at_clause few none_yet none) =
      ap (λ z. lines_read (flat_map clause_line cs ++ (flat_map step_line z ++ rest))) none_yet
      ∙ ap (with_clauses n) (rest_left (clause vars) clause_line (IsClause vars) (clause_exact vars good.few_vars) clauses cs rest g few none)
  stopped_at cs ss rest g h (at_step all few none) =
      clauses_read cs (flat_map step_line ss ++ rest) all g
      ∙ ap (with_steps vars cs) (rest_left (step vars (clauses + steps)) step_line (IsStep vars (clauses + steps)) (step_exact vars good.few_vars (clauses + steps) fits) steps ss rest h few none)
  stopped_at cs ss rest g h (at_end all all_steps more) =
      clauses_read cs (flat_map step_line ss ++ rest) all g ∙ all_steps_read cs ss rest all_steps h ∙ still rest more
    where
      still : (left : List ℕ) → left ≢ [] → ended (record { vars = vars; clauses = cs; steps = ss }) left ≡ Err left
      still [] none = absurd (none refl)
      still (b ∷ bs) none = refl

-- the text of a log is read as that log
pub log_is_read : (text : List ℕ) (vars : ℕ) (clauses : List (List ℤ)) (steps : List Step) → Reads text vars clauses steps
    → log_in text ≡ Ok (record { vars = vars; clauses = clauses; steps = steps })
log_is_read text vars cs ss reads =
    let good = reads.bounds.counts in
    let whole : log_or_rest text ≡ Ok (record { vars = vars; clauses = cs; steps = ss }) =
    ap log_or_rest (reads.printed ∙ ap (λ t. first_line vars (length cs) (length ss) ++ (flat_map clause_line cs ++ t)) (sym (append-nil (flat_map step_line ss))))
    ∙ first_read vars (length cs) (length ss) good (flat_map clause_line cs ++ (flat_map step_line ss ++ []))
    ∙ clauses_read vars (length cs) (length ss) good cs (flat_map step_line ss ++ []) refl reads.bounds.each_clause
    ∙ all_steps_read vars (length cs) (length ss) good cs ss [] refl reads.bounds.each_step in
    ap (result_map_both (λ (log : Log). log) (λ left. length text - length left)) whole

-- a text with a fault is read to its place
pub fault_is_read : (text : List ℕ) (at : ℕ) → IsFault text at → log_in text ≡ Err at
fault_is_read text at (inl f) =
    let none : from_line counts text ≡ None = none_read counts counts_line GoodCounts counts_exact text (λ n rest good. f.1 n.vars n.clauses n.steps rest good) in
    ap (λ found. result_map_both (λ (log : Log). log) (λ left. length text - length left) (with_counts text found)) none ∙ ap Err (let same : length text - length text ≡ at = omega (arith, f.0) in same)
fault_is_read text at (inr s) =
    let left : log_or_rest text ≡ Err s.rest =
    ap log_or_rest (s.text_is ∙ ap (λ f. f ++ s.rest) s.front_is
    ∙ append_assoc (first_line s.vars s.clause_count s.step_count) (flat_map clause_line s.clauses ++ flat_map step_line s.steps) s.rest
    ∙ ap (λ t. first_line s.vars s.clause_count s.step_count ++ t) (append_assoc (flat_map clause_line s.clauses) (flat_map step_line s.steps) s.rest))
    ∙ first_read s.vars s.clause_count s.step_count s.counts (flat_map clause_line s.clauses ++ (flat_map step_line s.steps ++ s.rest))
    ∙ stopped_at s.vars s.clause_count s.step_count s.counts s.clauses s.steps s.rest s.each_clause s.each_step s.stops in
    let whole : length text ≡ at + length s.rest = ap length s.text_is ∙ length-append s.front s.rest ∙ ap (λ k. k + length s.rest) (sym s.place) in
    ap (result_map_both (λ (log : Log). log) (λ rest. length text - length rest)) left ∙ ap Err (let same : length text - length s.rest ≡ at = omega (arith, whole) in same)
