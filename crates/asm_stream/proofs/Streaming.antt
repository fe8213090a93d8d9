-- From one piece of the stream to the whole: what was read and what went out so far, and how the assembly ends.
use Rattle.std.proofs.Common.{◌≡◌, ◌⊎◌, ℕ, ◌+◌, ◌<◌, ◌≤◌, List, [], ◌∷◌, ◌++◌, length, take, Some, None, Result, Ok, Err, inl, inr, refl, sym, ap, ◌∙◌, subst, arith, append-nil, append_assoc, length-append, length-take}
use Rattle.std.proofs.Math.Seq.{take-append-add, take-append_seam}
use Rattle.std.specs.Io.KnownBytes.{Appends, Consumes, Keeps, IsAtEnd}
use Rattle.std.proofs.KnownBytes.{Appends-nil, Appends-trans, Appends-kept, Keeps-refl, Consumes-nil, Consumes-trans, Consumes-whole}
use Rattle.spec_io.specs.Faults.{Rose}
use Rattle.spec_io.specs.States.{Reading, Writing}
use Rattle.spec_decode.specs.Machine.{Machine}
use Rattle.spec_lines.specs.Reasons.{reason}
use Rattle.spec_lines.specs.Assembly.{BadLine, Assembled, assembled_from, assembled}
use Rattle.spec_lines.specs.Cut.{cut, assembled_cut}
use Rattle.spec_lines.proofs.CutLaws.{followed}
use Rattle.spec_run.specs.End as run
use Rattle.spec_run.specs.Work.{Over, Reads}
use Rattle.spec_run.specs.Assembling.{assembly_outcome, asm_outcome, asm_work}
use Rattle.spec_run.specs.Scene.{ReadsAtMost}
use Rattle.spec_run.specs.Ran.{Ran, Broke}
use Rattle.spec_run.proofs.Assembling.{asm_whole, asm_refused, asm_cut_off, asm_fits}
use Rattle.spec_run.proofs.Told.{OfPart, Listed, prefix_told, short_told, prefix_of, stream_behind, whole_told}
use Rattle.mrs_io.proofs.Causes.{Rose-earlier}
use Rattle.list_stream.specs.Pieces.{Looked}
use Rattle.list_stream.specs.declared.piece.Look.TheVariants as look
use Rattle.list_words.specs.Listers.{machine}
use Rattle.list_words.specs.declared.lister.Lister.{Lister}
use Rattle.asm_stream.specs.Lines.{IsBad}
use Rattle.asm_stream.specs.SoFar.{SoFar, Refuses}
use Rattle.asm_stream.specs.Pieces.{Before, Fronts, PieceTaken, PieceEnds, PieceCause, LastLine}
use Rattle.asm_stream.specs.Progress.{Progress}
use Rattle.asm_stream.specs.Endings.{refusal, stopped_by, ended_by}
use Rattle.asm_stream.specs.Assembles.{Assembles}
use Rattle.asm_stream.specs.declared.assembly.Assembly.{Assembly}
use Rattle.asm_stream.specs.declared.stop.Stop.{Stop}
use Rattle.asm_stream.specs.declared.stop.Stop.TheVariants as stop
use Rattle.asm_stream.specs.declared.ended.Ended.TheVariants as ended
use Rattle.asm_stream.proofs.Steps.{so_far_start, all_lines, no_more, whole_count}

module _ (lister : Lister) where
  abbrev m : Machine
  m = machine lister

  pub progress_start : (a : Assembly) (r : Reading) (w : Writing) → a.number ≡ 1 → a.left.items ≡ [] → Progress lister a r r w w 0
  progress_start a r w first none = record {
    done = [];
    size_is = refl;
    read = Consumes-nil r.left;
    bytes = [];
    wrote = Appends-nil w.taken;
    so_far = rw (first, none) (so_far_start m);
  }

  pub progress_next : (a a1 : Assembly) (r0 r r1 : Reading) (w0 w w1 : Writing) (size n : ℕ) (buffer : List ℕ) → length buffer ≤ n → Progress lister a r0 r w0 w size → PieceTaken lister a a1 (length buffer) r r1 w w1 buffer n
      → Progress lister a1 r0 r1 w0 w1 (size + length buffer)
  progress_next a a1 r0 r r1 w0 w w1 size n buffer full p h = record {
    done = p.done ++ take n buffer;
    size_is = let fits : n ≤ length buffer = h.fits in simp (length-append, length-take) (omega (arith, p.size_is));
    read = Consumes-trans r0.left r.left r1.left p.done _ p.read h.read;
    bytes = p.bytes ++ h.words;
    wrote = Appends-trans w0.taken w.taken w1.taken _ _ p.wrote h.wrote;
    so_far = h.reaches p.done p.bytes p.so_far;
  }

  -- the same where the piece is short
  pub progress_short : (a a1 : Assembly) (r0 r r1 : Reading) (w0 w w1 : Writing) (size n : ℕ) (buffer : List ℕ) → Progress lister a r0 r w0 w size → PieceTaken lister a a1 (length buffer) r r1 w w1 buffer n → Progress lister a1 r0 r1 w0 w1 (size + n)
  progress_short a a1 r0 r r1 w0 w w1 size n buffer p h = record {
    done = p.done ++ take n buffer;
    size_is = let fits : n ≤ length buffer = h.fits in simp (length-append, length-take) (omega (arith, p.size_is));
    read = Consumes-trans r0.left r.left r1.left p.done _ p.read h.read;
    bytes = p.bytes ++ h.words;
    wrote = Appends-trans w0.taken w.taken w1.taken _ _ p.wrote h.wrote;
    so_far = h.reaches p.done p.bytes p.so_far;
  }

  -- lines are no more than bytes
  pub few_lines : (a : Assembly) (r0 r : Reading) (w0 w : Writing) (size : ℕ) → Progress lister a r0 r w0 w size → a.number ≤ size + 1
  few_lines a r0 r w0 w size p = omega (arith, p.size_is, p.so_far.number_is, whole_count p.done)

  module _ (limit : ℕ) where
    abbrev work : Over
    work = asm_work m limit

    -- words stand at the front of all that goes out
    front_out : (xs bytes ys : List ℕ) → length xs ≤ limit → Fronts m xs bytes → (rest : List ℕ) × ((asm_outcome m limit (xs ++ ys)).out ≡ bytes ++ rest)
    front_out xs bytes ys le (inl s) =
        let front = (asm_fits m limit).front xs ys le in
        (front.0, front.1 ∙ ap (λ a. a.bytes ++ front.0) s.2.words)
    front_out xs bytes ys le (inr r) =
        ([], ap (λ o. o.out) (asm_refused m limit xs ys r.0 le (ap (λ a. a.refused) r.1)) ∙ ap (λ a. a.bytes) r.1 ∙ sym (append-nil bytes))

    -- words went out, and then a first part of more
    part_out : (r0 r1 : Reading) (w0 w w1 : Writing) (read xs extra before words : List ℕ) (n d : ℕ) → read ≡ xs ++ extra → Consumes r0.left r1.left read → length xs ≤ limit → Fronts m xs (before ++ words)
        → Appends w0.taken w.taken before → n + d ≤ length words → Appends w.taken w1.taken (take n words) → OfPart work d r0 w0 w1
    part_out r0 r1 w0 w w1 read xs extra before words n d e was_read le fronts first few next =
        let stream = stream_behind r0.left r1.left read was_read in
        let all : read ++ stream.0 ≡ xs ++ (extra ++ stream.0) = ap (λ b. b ++ stream.0) e ∙ append_assoc xs extra stream.0 in
        let front = front_out xs (before ++ words) (extra ++ stream.0) le fronts in
        let text : take (length before + n) (before ++ words) ≡ before ++ take n words = take-append-add before words n in
        let size : length before + n + d ≤ length (before ++ words) = omega (arith, length-append before words) in (
          read ++ stream.0,
          stream.1,
          prefix_of work w0 w1 (before ++ words) front.0 _ (length before + n) d (ap (λ b. (asm_outcome m limit b).out) all ∙ front.1) size
              (subst (Appends w0.taken w1.taken) (sym text) (Appends-trans w0.taken w.taken w1.taken before _ first next)),
        )

    -- a line is refused behind words that went out
    refused_out : (r0 r1 : Reading) (w0 w1 : Writing) (xs bytes : List ℕ) (bad : BadLine) → Consumes r0.left r1.left xs → length xs ≤ limit → Refuses m xs bad bytes → Appends w0.taken w1.taken bytes → Listed work r0 w0 w1 (refusal lister bad)
    refused_out r0 r1 w0 w1 xs bytes bad was_read le is wrote =
        let stream = stream_behind r0.left r1.left xs was_read in
        let e = asm_refused m limit xs stream.0 bad le (ap (λ a. a.refused) is) in
        (xs ++ stream.0, stream.1, (ap (λ o. o.end) e, subst (Appends w0.taken w1.taken) (sym (ap (λ o. o.out) e ∙ ap (λ a. a.bytes) is)) wrote))

    -- ---- a piece that stops

    module _ (a a1 : Assembly) (r0 r r1 : Reading) (w0 w w1 : Writing) (size : ℕ) (p : Progress lister a r0 r w0 w size) where
      few_bytes : (bytes : List ℕ) → Consumes r.left r1.left bytes → size + length bytes ≤ limit + 1 → ReadsAtMost r0 r1 (limit + 1)
      few_bytes bytes read few = record {
        bytes = p.done ++ bytes;
        taken = Consumes-trans r0.left r.left r1.left p.done bytes p.read read;
        few = simp length-append (omega (arith, p.size_is));
      }

      input_broke : (bytes : List ℕ) → size ≤ limit → r0.faults ≤ r.faults → Rose r.faults r1.faults → Consumes r.left r1.left bytes → Keeps w.taken w1.taken → Broke r0 r1 w0 w1 work
      input_broke bytes few le rose read kept = record {
        cause = Rose-earlier r0.faults r.faults r1.faults le rose;
        read = p.done ++ bytes;
        was_read = Consumes-trans r0.left r.left r1.left p.done bytes p.read read;
        front = length p.done;
        within = omega (arith, p.size_is);
        lines =
            let e : (assembled_from 1 m (cut (take (length p.done) (p.done ++ bytes))).whole).bytes ≡ p.bytes = ap (λ xs. (assembled_from 1 m (cut xs).whole).bytes) (take-append_seam p.done bytes) ∙ ap (λ a. a.bytes) p.so_far.words in
            subst (Appends w0.taken w1.taken) (sym e) (Appends-kept w0.taken w.taken w1.taken _ p.wrote kept);
      }

      pub stopped : (buffer : List ℕ) (s : Stop) → size + length buffer ≤ limit → r0.faults ≤ r.faults → w0.faults ≤ w.faults
          → PieceEnds lister a a1 (length buffer) r r1 w w1 buffer (Err s) → PieceCause r r1 w w1 (Err s) → Assembles lister limit r0 r1 w0 w1 (stopped_by s)
      stopped buffer stop.Input room il ol h cause = record {
        end = run.ReadFault run.Input;
        is = refl;
        ran = record {
          meaning = input_broke h.bytes (omega arith) il cause.cause h.read h.nothing;
          reading = few_bytes h.bytes h.read (omega (arith, h.fits));
          input_count = omega (arith, cause.input_later);
          out_count = omega (arith, cause.out_later);
        };
      }
      stopped buffer stop.Memory room il ol h cause = record {
        end = run.NoMemory;
        is = refl;
        ran = record {
          meaning =
              let some : Appends w.taken w1.taken [] = Appends-kept w.taken w.taken w1.taken [] (Appends-nil w.taken) h.nothing in
              prefix_told work r0 w0 w1
              (part_out r0 r1 w0 w w1 (p.done ++ h.bytes) p.done h.bytes p.bytes [] 0 0 refl (Consumes-trans r0.left r.left r1.left p.done h.bytes p.read h.read) (omega (arith, p.size_is))
              (inl (a.number, a.left.items, rw (append-nil p.bytes) p.so_far)) p.wrote (omega arith) some);
          reading = few_bytes h.bytes h.read (omega (arith, h.fits));
          input_count = omega (arith, cause.input_later);
          out_count = omega (arith, cause.out_later);
        };
      }
      stopped buffer stop.Output room il ol h cause = record {
        end = run.WriteFault;
        is = refl;
        ran = record {
          meaning = (
            Rose-earlier w0.faults w.faults w1.faults ol cause.cause,
            short_told work r0 w0 w1
                (part_out r0 r1 w0 w w1 (p.done ++ h.bytes) (p.done ++ h.bytes) [] p.bytes h.words h.part.count 1 (sym (append-nil _)) (Consumes-trans r0.left r.left r1.left p.done h.bytes p.read h.read)
                (simp length-append (omega (arith, p.size_is, h.fits))) (h.fronts p.done p.bytes p.so_far) p.wrote (omega (arith, h.part.short)) h.part.front),
          );
          reading = few_bytes h.bytes h.read (omega (arith, h.fits));
          input_count = omega (arith, cause.input_later);
          out_count = omega (arith, cause.out_later);
        };
      }
      stopped buffer (stop.Line number fault) room il ol h cause = record {
        end = refusal lister h.bad;
        is = (h.bad, h.is, refl);
        ran = record {
          meaning = refused_out r0 r1 w0 w1 (p.done ++ h.bytes) (p.bytes ++ h.words) h.bad (Consumes-trans r0.left r.left r1.left p.done h.bytes p.read h.read)
              (simp length-append (omega (arith, p.size_is, h.fits))) (h.refuses p.done p.bytes p.so_far) (Appends-trans w0.taken w.taken w1.taken _ _ p.wrote h.wrote);
          reading = few_bytes h.bytes h.read (omega (arith, h.fits));
          input_count = omega (arith, cause.input_later);
          out_count = omega (arith, cause.out_later);
        };
      }

    -- ---- the end of the stream

    module _ (a : Assembly) (r0 r1 : Reading) (w0 w1 w2 : Writing) (size : ℕ) (p : Progress lister a r0 r1 w0 w1 size) (le : size ≤ limit) (at_end : IsAtEnd r1.left) where
      abbrev last : Assembled
      last = assembled_from a.number m (a.left.items ∷ [])

      whole_is : asm_outcome m limit p.done ≡ assembly_outcome m run.Done (followed None p.bytes last)
      whole_is = asm_whole m limit p.done (omega (arith, p.size_is)) ∙ ap (assembly_outcome m run.Done) (all_lines m p.done a.number a.left.items p.bytes p.so_far)

      few : ReadsAtMost r0 r1 (limit + 1)
      few = record { bytes = p.done; taken = p.read; few = omega (arith, p.size_is) }

      told_end : (end : run.End) (out : List ℕ) → assembly_outcome m run.Done (followed None p.bytes last) ≡ record { end = end; out = out } → Appends w0.taken w2.taken out → Listed work r0 w0 w2 end
      told_end end out e wrote =
          let all = whole_is ∙ e in
          whole_told work r0 r1 w0 w2 p.done end p.read at_end (ap (λ o. o.end) all) (subst (Appends w0.taken w2.taken) (sym (ap (λ o. o.out) all)) wrote)

      part_end : (n d : ℕ) → n + d ≤ length last.bytes → Appends w1.taken w2.taken (take n last.bytes) → OfPart work d r0 w0 w2
      part_end n d few out =
          let e : (asm_outcome m limit p.done).out ≡ p.bytes ++ last.bytes = ap (λ o. o.out) whole_is in
          let l : length p.bytes + n + d ≤ length (asm_outcome m limit p.done).out = omega (arith, ap length e, length-append p.bytes last.bytes) in
          let text : take (length p.bytes + n) (asm_outcome m limit p.done).out ≡ p.bytes ++ take n last.bytes = ap (take (length p.bytes + n)) e ∙ take-append-add p.bytes last.bytes n in
          let same = Consumes-whole r0.left r1.left p.done (λ bytes. bytes ≡ p.done) p.read at_end refl in
          (p.done, same, (length p.bytes + n, l, subst (Appends w0.taken w2.taken) (sym text) (Appends-trans w0.taken w1.taken w2.taken p.bytes _ p.wrote out)))

      pub finished : (s : Result (Unit {0}) Stop) → r0.faults ≤ r1.faults → w0.faults ≤ w1.faults → w1.faults ≤ w2.faults → LastLine lister a w1 w2 s → Assembles lister limit r0 r1 w0 w2 (ended_by s)
      finished (Ok u) il ol later h = record {
        end = run.Done;
        is = refl;
        ran = record {
          meaning = (
            told_end run.Done (p.bytes ++ h.0) (ap (λ x. assembly_outcome m run.Done (followed None p.bytes x)) h.1) (Appends-trans w0.taken w1.taken w2.taken _ _ p.wrote h.2),
            at_end,
          );
          reading = few;
          input_count = il;
          out_count = omega arith;
        };
      }
      finished (Err (stop.Line number fault)) il ol later h = record {
        end = refusal lister h.0;
        is = (h.0, h.1, refl);
        ran = record {
          meaning =
              told_end (refusal lister h.0) (p.bytes ++ []) (ap (λ x. assembly_outcome m run.Done (followed None p.bytes x)) h.2)
              (Appends-trans w0.taken w1.taken w2.taken _ _ p.wrote h.3);
          reading = few;
          input_count = il;
          out_count = omega arith;
        };
      }
      finished (Err stop.Memory) il ol later h = record {
        end = run.NoMemory;
        is = refl;
        ran = record {
          meaning = prefix_told work r0 w0 w2 (part_end 0 0 (omega arith) (Appends-kept w1.taken w1.taken w2.taken [] (Appends-nil w1.taken) h));
          reading = few;
          input_count = il;
          out_count = omega arith;
        };
      }
      finished (Err stop.Output) il ol later h = record {
        end = run.WriteFault;
        is = refl;
        ran = record {
          meaning = (Rose-earlier w0.faults w1.faults w2.faults ol h.0, short_told work r0 w0 w2 (part_end h.1.count 1 (omega (arith, h.1.short)) h.1.front));
          reading = few;
          input_count = il;
          out_count = omega arith;
        };
      }
      finished (Err stop.Input) il ol later h = absurd h

    -- ---- the limit

    module _ (a : Assembly) (r0 r1 r2 : Reading) (w0 w1 : Writing) (p : Progress lister a r0 r1 w0 w1 limit) where
      -- a byte follows it
      pub more_behind : r0.faults ≤ r1.faults → w0.faults ≤ w1.faults → Looked r1 r2 look.More → Assembles lister limit r0 r2 w0 w1 ended.Limit
      more_behind il ol looked =
          let byte : ℕ = looked.0.0 in
          let read : Consumes r0.left r2.left (p.done ++ byte ∷ []) = Consumes-trans r0.left r1.left r2.left p.done _ p.read looked.0.1 in
          let stream = stream_behind r0.left r2.left (p.done ++ byte ∷ []) read in
          let all : (p.done ++ byte ∷ []) ++ stream.0 ≡ p.done ++ byte ∷ stream.0 = append_assoc p.done (byte ∷ []) stream.0 in
          let long : limit < length (p.done ++ byte ∷ stream.0) = omega (arith, length-append p.done (byte ∷ stream.0), p.size_is) in
          let none = no_more m p.done a.number a.left.items p.bytes p.so_far in
          let e = ap (asm_outcome m limit) all ∙ asm_cut_off m limit p.done (byte ∷ stream.0) p.size_is long (ap (λ x. x.refused) none) in record {
            end = run.Limit run.Input;
            is = refl;
            ran = record {
              meaning = ((p.done ++ byte ∷ []) ++ stream.0, stream.1, (ap (λ o. o.end) e, subst (Appends w0.taken w1.taken) (sym (ap (λ o. o.out) e ∙ ap (λ x. x.bytes) none)) p.wrote));
              reading = record { bytes = p.done ++ byte ∷ []; taken = read; few = simp length-append (omega (arith, p.size_is)) };
              input_count = omega (arith, looked.1);
              out_count = ol;
            };
          }

      -- the look failed
      pub look_failed : r0.faults ≤ r1.faults → w0.faults ≤ w1.faults → Looked r1 r2 look.Failed → Assembles lister limit r0 r2 w0 w1 ended.ReadFault
      look_failed il ol looked = record {
        end = run.ReadFault run.Input;
        is = refl;
        ran = record {
          meaning = input_broke a a r0 r1 r2 w0 w1 w1 limit p [] (omega arith) il looked.0 looked.1 (Keeps-refl w1.taken);
          reading = few_bytes a a r0 r1 r2 w0 w1 w1 limit p [] looked.1 (omega arith);
          input_count = omega (arith, looked.2);
          out_count = ol;
        };
      }

      -- nothing follows it
      pub nothing_behind : Looked r1 r2 look.End → Progress lister a r0 r2 w0 w1 limit
      nothing_behind looked = record {
        done = p.done;
        size_is = p.size_is;
        read = subst (Consumes r0.left r2.left) (append-nil p.done) (Consumes-trans r0.left r1.left r2.left p.done [] p.read looked.0);
        bytes = p.bytes;
        wrote = p.wrote;
        so_far = p.so_far;
      }

    -- the same where the limit is reached by another number

    pub more_past : (a : Assembly) (r0 r1 r2 : Reading) (w0 w1 : Writing) (size : ℕ) → size ≡ limit → Progress lister a r0 r1 w0 w1 size → r0.faults ≤ r1.faults → w0.faults ≤ w1.faults → Looked r1 r2 look.More → Assembles lister limit r0 r2 w0 w1 ended.Limit
    more_past a r0 r1 r2 w0 w1 size e p il ol looked = more_behind a r0 r1 r2 w0 w1 (subst (Progress lister a r0 r1 w0 w1) e p) il ol looked

    pub failed_past : (a : Assembly) (r0 r1 r2 : Reading) (w0 w1 : Writing) (size : ℕ) → size ≡ limit → Progress lister a r0 r1 w0 w1 size → r0.faults ≤ r1.faults → w0.faults ≤ w1.faults → Looked r1 r2 look.Failed → Assembles lister limit r0 r2 w0 w1 ended.ReadFault
    failed_past a r0 r1 r2 w0 w1 size e p il ol looked = look_failed a r0 r1 r2 w0 w1 (subst (Progress lister a r0 r1 w0 w1) e p) il ol looked
