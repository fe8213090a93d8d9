-- Each text is that of a log, or has a place at which it is not as demanded: what is read of its lines shows which.
use Rattle.std.proofs.Common.{◌≡◌, ◌≢◌, ◌⊎◌, inl, inr, ℕ, zero, suc, ◌+◌, ◌-◌, ◌^◌, ◌<◌, ◌≤◌, ℤ, List, [], ◌∷◌, ◌++◌, length, Option, Some, None, Result, Ok, Err, refl, sym, ap, ◌∙◌, subst, ⊎_elim, arith}
use Rattle.std.specs.Prelude.{flat_map}
use Rattle.std.specs.List.{AllByRecursion}
use Rattle.std.proofs.lemmas.Bool.{cases_lt, cases_eq}
use Rattle.std.proofs.lemmas.List.{append_assoc, append-nil}
use Rattle.spec_refutation.specs.Derivation.{Step}
use Rattle.spec_refutation.specs.Text.{first_line, clause_line, step_line}
use Rattle.spec_refutation.specs.Reading.{AreCounts, IsClause, IsStep, NoFirstLine, NoClauseLine, NoStepLine, LogIn, FaultIn, Reads, IsFault}
use Rattle.spec_refutation.specs.Scans.{LinesEnd}
use Rattle.spec_refutation.specs.LogReading.{Log, log_in, from_line, counts, clause, step}
use Rattle.spec_refutation.proofs.LineReadings.{ExactLine}
use Rattle.spec_refutation.proofs.LogLines.{GoodCounts, counts_line, counts_exact, clause_exact, step_exact}
use Rattle.spec_refutation.proofs.LogReadings.{log_is_read, fault_is_read}
use Rattle.spec_refutation.proofs.Stopped.{stopped}

-- something at the front of a text, and the bytes after it
pub record Front {A : Type 0} (Is : A → List ℕ → Type 0) : Type 0 where
  pub item : A
  pub rest : List ℕ
  pub is : Is item rest

-- ---- a line

pub record LineIn {A : Type 0} (print : A → List ℕ) (Good : A → Type 0) (text : List ℕ) (a : A) (rest : List ℕ) : Type 0 where
  pub good : Good a
  pub read : text ≡ print a ++ rest

-- a line is what it is read as, or is none
line_front : {A : Type 0} (read : List (List ℕ) → Option A) (print : A → List ℕ) (Good : A → Type 0) → ExactLine read print Good → (text : List ℕ)
    → Front (LineIn print Good text) ⊎ ((a : A) (rest : List ℕ) → Good a → text ≢ print a ++ rest)
line_front {A} read print Good each text = go (from_line read text) refl
  where
    go : (found : Option (A × List ℕ)) → from_line read text ≡ found → Front (LineIn print Good text) ⊎ ((a : A) (rest : List ℕ) → Good a → text ≢ print a ++ rest)
    go None e = inr (λ a rest good is. let some : from_line read text ≡ Some (a, rest) = ap (from_line read) is ∙ each.complete a rest good in cc)
    go (Some p) e = let h = each.sound text p.1 p.0 e in inl (record { item = p.0; rest = p.1; is = record { good = h.0; read = h.1 } })

-- ---- lines, at most so many

pub record CountedIn {A : Type 0} (print : A → List ℕ) (Good : A → Type 0) (None : List ℕ → Type 0) (count : ℕ) (text : List ℕ) (items : List A) (rest : List ℕ) : Type 0 where
  pub good : AllByRecursion Good items
  pub read : text ≡ flat_map print items ++ rest
  pub few : length items ≤ count
  pub next : length items < count → None rest

module _ {A : Type 0} (print : A → List ℕ) (Good : A → Type 0) (None : List ℕ → Type 0)
    (front : (text : List ℕ) → Front (LineIn print Good text) ⊎ None text) where
  line_more : (count : ℕ) (text : List ℕ) (f : Front (LineIn print Good text)) → Front (CountedIn print Good None count f.rest) → Front (CountedIn print Good None (suc count) text)
  line_more count text f more = record {
    item = f.item ∷ more.item;
    rest = more.rest;
    is = record {
      good = (f.is.good, more.is.good);
      read = f.is.read ∙ ap (λ t. print f.item ++ t) more.is.read ∙ sym (append_assoc (print f.item) (flat_map print more.item) more.rest);
      few = omega (arith, more.is.few);
      next = λ lt. more.is.next (omega arith);
    };
  }

  counted : (count : ℕ) (text : List ℕ) → Front (CountedIn print Good None count text)
  counted zero text = record { item = []; rest = text; is = record { good = tt; read = refl; few = omega arith; next = λ lt. absurd (omega arith) } }
  counted (suc count) text = ⊎_elim
      (λ (f : Front (LineIn print Good text)). line_more count text f (counted count f.rest))
      (λ none. record { item = []; rest = text; is = record { good = tt; read = refl; few = omega arith; next = λ _. none } })
      (front text)

-- ---- the first line

-- the counts of a first line
pub record FirstIn (text : List ℕ) : Type 0 where
  pub vars : ℕ
  pub clauses : ℕ
  pub steps : ℕ
  pub rest : List ℕ
  pub counts : AreCounts vars clauses steps
  pub read : text ≡ first_line vars clauses steps ++ rest

first_front : (text : List ℕ) → FirstIn text ⊎ NoFirstLine text
first_front text = ⊎_elim
    (λ f. inl (record { vars = f.item.vars; clauses = f.item.clauses; steps = f.item.steps; rest = f.rest; counts = f.is.good; read = f.is.read }))
    (λ none. inr (λ v c s rest good. none (record { vars = v; clauses = c; steps = s }) rest good))
    (line_front counts counts_line GoodCounts counts_exact text)

-- ---- the whole text

module _ (text : List ℕ) (first : FirstIn text) where
  few_lines : first.clauses + first.steps < 2 ^ 64
  few_lines = omega (arith, first.counts.few_lines)

  pub record LinesOf : Type 0 where
    pub clauses : List (List ℤ)
    pub steps : List Step
    pub rest : List ℕ
    pub ends : LinesEnd first.vars first.clauses first.steps first.rest clauses steps rest

  lines : LinesOf
  lines = then (counted clause_line (IsClause first.vars) (NoClauseLine first.vars) (line_front (clause first.vars) clause_line (IsClause first.vars) (clause_exact first.vars first.counts.few_vars)) first.clauses first.rest)
    where
      then : Front (CountedIn clause_line (IsClause first.vars) (NoClauseLine first.vars) first.clauses first.rest) → LinesOf
      then c = ⊎_elim
          (λ lt. record {
            clauses = c.item;
            steps = [];
            rest = c.rest;
            ends = record {
              each_clause = c.is.good;
              each_step = tt;
              read = c.is.read;
              few_clauses = c.is.few;
              few_steps = omega arith;
              due_clause = λ _. (refl, c.is.next lt);
              due_step = λ e. absurd (omega arith);
            };
          })
          (λ ge.
          let s = counted step_line (IsStep first.vars (first.clauses + first.steps)) (NoStepLine first.vars (first.clauses + first.steps)) (line_front (step first.vars (first.clauses + first.steps)) step_line (IsStep first.vars (first.clauses + first.steps)) (step_exact first.vars first.counts.few_vars (first.clauses + first.steps) few_lines)) first.steps c.rest in
          record {
            clauses = c.item;
            steps = s.item;
            rest = s.rest;
            ends = record {
              each_clause = c.is.good;
              each_step = s.is.good;
              read = c.is.read ∙ ap (λ z. flat_map clause_line c.item ++ z) s.is.read;
              few_clauses = c.is.few;
              few_steps = s.is.few;
              due_clause = λ lt. absurd (omega arith);
              due_step = λ _ lt. s.is.next lt;
            };
          })
          (cases_lt (length c.item) first.clauses)

whole : (text : List ℕ) (first : FirstIn text) (l : LinesOf text first) → length l.clauses ≡ first.clauses → length l.steps ≡ first.steps → l.rest ≡ [] → LogIn text
whole text first l all_clauses all_steps none = record {
  vars = first.vars;
  clauses = l.clauses;
  steps = l.steps;
  reads = record {
    bounds = record {
      counts = record { few_vars = first.counts.few_vars; few_lines = omega (arith, first.counts.few_lines) };
      each_clause = l.ends.each_clause;
      each_step = let P : ℕ → Type 0 = λ n. AllByRecursion (IsStep first.vars n) l.steps in let e : first.clauses + first.steps ≡ length l.clauses + length l.steps = omega arith in subst P e l.ends.each_step;
    };
    printed = first.read ∙ ap (λ z. first_line first.vars first.clauses first.steps ++ z) (l.ends.read ∙ ap (λ z. flat_map clause_line l.clauses ++ z) (ap (λ z. flat_map step_line l.steps ++ z) none ∙ append-nil (flat_map step_line l.steps)))
        ∙ ap (λ n. first_line first.vars n first.steps ++ (flat_map clause_line l.clauses ++ flat_map step_line l.steps)) (sym all_clauses)
        ∙ ap (λ n. first_line first.vars (length l.clauses) n ++ (flat_map clause_line l.clauses ++ flat_map step_line l.steps)) (sym all_steps);
  };
}

broken : (text : List ℕ) (first : FirstIn text) (l : LinesOf text first) → (length l.clauses ≡ first.clauses → length l.steps ≡ first.steps → l.rest ≢ []) → FaultIn text
broken text first l more = record {
  at = length text - length l.rest;
  is = stopped first.vars first.clauses first.steps first.rest l.clauses l.steps l.rest l.ends text (length text - length l.rest) first.counts first.read more refl;
}

behind_first : (text : List ℕ) (first : FirstIn text) (l : LinesOf text first) → LogIn text ⊎ FaultIn text
behind_first text first l = ⊎_elim
    (λ all_clauses. ⊎_elim
    (λ all_steps. ⊎_elim
    (λ none. inl (whole text first l all_clauses all_steps none))
    (λ some. inr (broken text first l (λ _ _. some)))
    (empty_or_not l.rest))
    (λ few. inr (broken text first l (λ _ e. absurd (few e))))
    (cases_eq (length l.steps) first.steps))
    (λ few. inr (broken text first l (λ e. absurd (few e))))
    (cases_eq (length l.clauses) first.clauses)
  where
    empty_or_not : (t : List ℕ) → (t ≡ []) ⊎ (t ≢ [])
    empty_or_not [] = inl refl
    empty_or_not (b ∷ t) = inr (λ e. cc)

-- each text is one of these
pub judged : (text : List ℕ) → LogIn text ⊎ FaultIn text
judged text = ⊎_elim
    (λ first. behind_first text first (lines text first))
    (λ none. inr (record { at = 0; is = inl (refl, none) }))
    (first_front text)

-- what is read of a text is its log
pub read_is_log : (text : List ℕ) (v : ℕ) (cs : List (List ℤ)) (ss : List Step) → log_in text ≡ Ok (record { vars = v; clauses = cs; steps = ss }) → Reads text v cs ss
read_is_log text v cs ss e = ⊎_elim
    (λ (log : LogIn text).
    let f : ◌≡◌ {A = Result Log ℕ} (Ok (record { vars = log.vars; clauses = log.clauses; steps = log.steps })) (Ok (record { vars = v; clauses = cs; steps = ss })) = sym (log_is_read text log.vars log.clauses log.steps log.reads) ∙ e in
    let same : ◌≡◌ {A = Log} (record { vars = log.vars; clauses = log.clauses; steps = log.steps }) (record { vars = v; clauses = cs; steps = ss }) = cc in
    let P : Log → Type 0 = λ l. Reads text l.vars l.clauses l.steps in
    subst P same log.reads)
    (λ (fault : FaultIn text). absurd (let f : ◌≡◌ {A = Result Log ℕ} (Err fault.at) (Ok (record { vars = v; clauses = cs; steps = ss })) = sym (fault_is_read text fault.at fault.is) ∙ e in cc))
    (judged text)

-- or its place
pub read_is_fault : (text : List ℕ) (at : ℕ) → log_in text ≡ Err at → IsFault text at
read_is_fault text at e = ⊎_elim
    (λ (log : LogIn text). absurd (let f : ◌≡◌ {A = Result Log ℕ} (Ok (record { vars = log.vars; clauses = log.clauses; steps = log.steps })) (Err at) = sym (log_is_read text log.vars log.clauses log.steps log.reads) ∙ e in cc))
    (λ (fault : FaultIn text).
    let f : ◌≡◌ {A = Result Log ℕ} (Err fault.at) (Err at) = sym (fault_is_read text fault.at fault.is) ∙ e in
    let same : fault.at ≡ at = cc in
    let P : ℕ → Type 0 = IsFault text in
    subst P same fault.is)
    (judged text)
