use Rattle.std.proofs.Common.{◌≡◌, true, true≢false, refl, sym, ◌∙◌}
use Rattle.release_opening.proofs.JsonTexts.{json_in-utf8, json_in-none}
use Rattle.release_opening.proofs.json.read_json.Goals as goal

pub returns-in-Ok : goal.returns-in-Ok
returns-in-Ok c = json_in-utf8 c.args.bytes.now _ c.in-Ok.ensures.ok.0 c.in-Ok.ensures.ok.1

pub returns-else-is_memory : goal.returns-else-is_memory
returns-else-is_memory c =
    (json_in-none c.args.bytes.now (c.in-Err.ensures.err (λ m. let t : c.is_memory.result ≡ true = c.is_memory.ensures.1 m in true≢false (sym t ∙ c.if-is_memory.false))), refl)
