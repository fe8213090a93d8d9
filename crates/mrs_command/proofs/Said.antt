-- Words of the code are the command of a verb and of the pairs behind it, where none of them is bad and no key is missing.
use Rattle.std.proofs.Common.{◌≡◌, ℕ, ◌-◌, ◌≤◌, List, [], ◌∷◌, length, get_or, take, drop, map, Some, None, Result, Ok, sym, ap, ◌∙◌, arith, String, Global, string_bytes}
use Rattle.std.proofs.Math.Seq.{take-length}
use Rattle.std.specs.Prelude.{option_map}
use Rattle.spec_command.specs.Setting.{settings_in}
use Rattle.spec_command.specs.Commands.{Request, Verb}
use Rattle.spec_command.specs.Words.{Command, asked, first_bad, settled, verb_named, said, complete, if_spoken, command}

pub said_by : (words : List (String Global)) (first : String Global) (text : List ℕ) (verb : Verb) (pairs : List (List ℕ × List ℕ)) (r : Request) → 1 ≤ length words → first ≡ get_or words 0 first → text ≡ string_bytes first
    → Some verb ≡ verb_named text → None ≡ first_bad verb.asks.keys (map string_bytes (take (length words - 1) (drop 1 words))) → pairs ≡ settings_in (map string_bytes (take (length words - 1) (drop 1 words)))
    → Some r ≡ verb.asks.value pairs → command (map string_bytes words) ≡ Ok (record { verb = verb; pairs = pairs })
said_by [] first text verb pairs r some item reads named good paired asks = absurd (omega arith)
said_by (word ∷ words) first text verb pairs r some item reads named good paired asks =
    let one_less : length (word ∷ words) - 1 ≡ length words = omega arith in
    let behind : take (length (word ∷ words) - 1) words ≡ words = ap (λ n. take n words) one_less ∙ take-length words in
    let is_named : verb_named (string_bytes word) ≡ Some verb = ap verb_named (ap string_bytes (sym item) ∙ sym reads) ∙ sym named in
    let is_good : first_bad verb.asks.keys (map string_bytes words) ≡ None = ap (λ l. first_bad verb.asks.keys (map string_bytes l)) (sym behind) ∙ sym good in
    let are_pairs : settings_in (map string_bytes words) ≡ pairs = ap (λ l. settings_in (map string_bytes l)) (sym behind) ∙ sym paired in
    let made : Command → Result Command ℕ = λ d. complete (length (map string_bytes (word ∷ words))) (option_map (λ _. d) (asked d)) in
    let d : List (List ℕ × List ℕ) → Command = λ p. record { verb = verb; pairs = p } in
    ap (λ n. if_spoken made (said n (map string_bytes words))) is_named
    ∙ ap (λ place. if_spoken made (settled verb (map string_bytes words) place)) is_good
    ∙ ap (λ p. made (d p)) are_pairs
    ∙ ap (λ what. complete (length (map string_bytes (word ∷ words))) (option_map (λ _. d pairs) what)) (sym asks)
