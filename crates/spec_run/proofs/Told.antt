-- What is known of a work over a stream from what was read of it and what went out: for whoever does such a work piece by piece.
use Rattle.std.proofs.Common.{◌≡◌, ℕ, ◌+◌, ◌≤◌, List, [], ◌++◌, length, take, Option, Some, None, IfSome, refl, sym, ap, ◌∙◌, subst, arith, length-append}
use Rattle.std.proofs.lemmas.List.{take-append-le}
use Rattle.std.specs.Io.KnownBytes.{Appends, Consumes, IsAtEnd}
use Rattle.std.proofs.KnownBytes.{Appends-nil, Consumes-nil, Consumes-whole}
use Rattle.spec_io.specs.States.{Reading, Writing}
use Rattle.spec_run.specs.End as run
use Rattle.spec_run.specs.Work.{Outcome, Over, Reads}
use Rattle.spec_run.specs.Scene.{TookPrefix, TookShort}
use Rattle.spec_run.specs.Ran.{Ran}
use Rattle.spec_run.specs.Fits.{IsProgress}

-- what went out in part: so many bytes, and at least d more that did not
abbrev pub Part : ℕ → Writing → Writing → List ℕ → Type 0
Part d w w1 whole = (n : ℕ) × (n + d ≤ length whole) × Appends w.taken w1.taken (take n whole)

as_prefix : (w w1 : Writing) (whole : List ℕ) → Part 0 w w1 whole → TookPrefix w w1 whole
as_prefix w w1 whole h = (h.0, omega (arith, h.1), h.2)

as_short : (w w1 : Writing) (whole : List ℕ) → Part 1 w w1 whole → TookShort w w1 whole
as_short w w1 whole h = (h.0, omega (arith, h.1), h.2)

-- the stream that begins with what was read: the source's, where it tells it
pub stream_behind : (a b : Option (List ℕ)) (read : List ℕ) → Consumes a b read → (rest : List ℕ) × IfSome a (λ all. all ≡ read ++ rest)
stream_behind None b read h = ([], tt)
stream_behind (Some x) None read h = absurd h
stream_behind (Some x) (Some y) read h = (y, h)

-- memory ran out before anything was read
pub not_begun : (over : Over) (r : Reading) (w : Writing) → Ran r r w w (Reads over) run.NoMemory
not_begun over r w = let stream = stream_behind r.left r.left [] (Consumes-nil r.left) in record {
  meaning = (stream.0, stream.1, (0, omega arith, Appends-nil w.taken));
  reading = record { bytes = []; taken = Consumes-nil r.left; few = omega arith };
  input_count = omega arith;
  out_count = omega arith;
}

module _ (over : Over) where
  -- so it is with the outcome of some stream, which is the source's where it tells it
  abbrev pub OfStream : Reading → (Outcome → Type 0) → Type 0
  OfStream r P = (bytes : List ℕ) × IfSome r.left (λ all. all ≡ bytes) × P (over.whole bytes)

  abbrev pub OfPart : ℕ → Reading → Writing → Writing → Type 0
  OfPart d r w w1 = OfStream r (λ o. Part d w w1 o.out)

  -- the work ends so, and exactly its bytes went out
  abbrev pub Listed : Reading → Writing → Writing → run.End → Type 0
  Listed r w w1 end = OfStream r (λ o. (o.end ≡ end) × Appends w.taken w1.taken o.out)

  pub prefix_told : (r : Reading) (w w1 : Writing) → OfPart 0 r w w1 → OfStream r (λ o. TookPrefix w w1 o.out)
  prefix_told r w w1 h = (h.0, h.1, as_prefix w w1 _ h.2)

  pub short_told : (r : Reading) (w w1 : Writing) → OfPart 1 r w w1 → OfStream r (λ o. TookShort w w1 o.out)
  short_told r w w1 h = (h.0, h.1, as_short w w1 _ h.2)

  -- a first part of a text, where a longer text begins with it
  pub prefix_of : (w w1 : Writing) (text rest whole : List ℕ) (n d : ℕ) → whole ≡ text ++ rest → n + d ≤ length text → Appends w.taken w1.taken (take n text) → Part d w w1 whole
  prefix_of w w1 text rest whole n d e le out =
      let l : n + d ≤ length whole = omega (arith, length-append text rest, ap length e) in
      let few : n ≤ length text = omega arith in
      let same : take n text ≡ take n whole = sym (take-append-le n text rest few) ∙ ap (take n) (sym e) in
      (n, l, subst (Appends w.taken w1.taken) same out)

  -- a first part of what goes out behind what was read
  pub part_told : IsProgress over → (r r1 : Reading) (w w1 : Writing) (bytes : List ℕ) (n d : ℕ) → Consumes r.left r1.left bytes → length bytes ≤ over.limit → n + d ≤ length (over.partial bytes) → Appends w.taken w1.taken (take n (over.partial bytes))
      → OfPart d r w w1
  part_told fits r r1 w w1 bytes n d read few le out =
      let stream = stream_behind r.left r1.left bytes read in
      let front = fits.front bytes stream.0 few in
      (bytes ++ stream.0, stream.1, prefix_of w w1 (over.partial bytes) front.0 _ n d front.1 le out)

  -- a stream that was read to its end
  pub whole_told : (r r1 : Reading) (w w1 : Writing) (all : List ℕ) (end : run.End) → Consumes r.left r1.left all → IsAtEnd r1.left → (over.whole all).end ≡ end → Appends w.taken w1.taken (over.whole all).out → Listed r w w1 end
  whole_told r r1 w w1 all end read ended is wrote = (all, Consumes-whole r.left r1.left all (λ bytes. bytes ≡ all) read ended refl, (is, wrote))
