use Rattle.std.proofs.Common.{ℕ, not, cond, length, sym, ap, ◌∙◌, arith}
use Rattle.mrs_command.specs.Commands.{verb_of}
use Rattle.mrs_command.proofs.Places.{found_here, found_later, judged_here, settings_more, pins_within, pins_more}
use Rattle.mrs_command.proofs.reading.first_bad.Goals as goal
use Rattle.mrs_command.proofs.reading.first_bad.Goals.{then-is_pin, else-is_pin}

pub returns-then-not-is_good-clause-place : goal.returns-then-not-is_good-clause-place
returns-then-not-is_good-clause-place c =
    let bad = judged_here _ _ c.loop-place.place _ _ _ (omega arith) c.index-words-place.is c.as_str-word.ensures.value c.is_good.ensures ∙ ap not c.if-not-is_good.true in
    sym (found_here _ c.loop-place.place (length c.args.words.now) (omega arith) bad) ∙ c.loop-place.invariant.rest

pub is_good-requires-clause-pins : goal.is_good-requires-clause-pins
is_good-requires-clause-pins c = c.loop-place.invariant.pins

pub overflow_add-pins : goal.overflow_add-pins
overflow_add-pins c = omega (arith, c.loop-place.invariant.pins, pins_within c.args.words.now c.loop-place.place)

pub loop-place-preserved : goal.loop-place-preserved
loop-place-preserved c =
    let good = judged_here _ _ c.loop-place.place _ _ _ (omega arith) c.index-words-place.is c.as_str-word.ensures.value c.is_good.ensures ∙ ap not c.if-not-is_good.false in
    record {
      pins =
          let more = pins_more c.args.words.now c.loop-place.place _ _ _ (omega arith) c.index-words-place.is c.as_str-word.ensures.value c.is_pin.ensures in
          elim c.if-is_pin.branch [
            | then-is_pin w ↦ omega (arith, more, c.loop-place.invariant.pins, w.pins-is, ap {B = ℕ} (λ b. cond b 1 0) w.if-is_pin.true)
            | else-is_pin w ↦ omega (arith, more, c.loop-place.invariant.pins, w.pins-is, ap {B = ℕ} (λ b. cond b 1 0) w.if-is_pin.false)
          ];
      rest = found_later _ c.loop-place.place (length c.args.words.now) (omega arith) good ∙ c.loop-place.invariant.rest;
      settings = settings_more (verb_of c.args.verb).asks.keys c.args.words.now c.loop-place.place _ _ (omega arith) c.index-words-place.is c.as_str-word.ensures.value c.loop-place.invariant.settings (sym c.is_good.ensures ∙ c.if-not-is_good.false);
    }
