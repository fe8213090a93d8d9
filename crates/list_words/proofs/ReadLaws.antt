-- What a line says by what is given in it.
use Rattle.std.proofs.Common.{◌≡◌, ◌∙◌, ap, refl, ℕ, List, Ok}
use Rattle.std.specs.Prelude.{Result, unwrap_or}
use Rattle.spec_decode.specs.Machine.{Machine}
use Rattle.spec_encoding.specs.Refusal.{Refusal}
use Rattle.spec_encoding.specs.Encoding.{encoding}
use Rattle.spec_lines.specs.LineFault as spec
use Rattle.spec_lines.specs.Given.{Given}
use Rattle.spec_lines.specs.Way.{Way, way_path}
use Rattle.spec_lines.specs.Parsed.{encoded_at, of_given}
use Rattle.insn_tree.specs.Trees.{TreeParts}
use Rattle.insn_encode.specs.declared.fault.EncodeFault.{EncodeFault}
use Rattle.list_words.specs.declared.line_fault.LineFault.{LineFault}
use Rattle.list_words.specs.declared.line_fault.LineWhy.TheVariants as why
use Rattle.list_words.specs.Faults.{IsRefused, IsEncode}
use Rattle.list_words.specs.Encoded.{IsRefusedAt}

pub given_refused : (names : List (List ℕ)) (tree : TreeParts) (machine : Machine) (at : ℕ) (way : Way) (code : LineFault) (told : Result Given spec.LineFault) → IsRefused names tree code told → IsRefused names tree code (of_given machine at way told)
given_refused names tree machine at way code told h = record { fault = h.fault; is = ap (of_given machine at way) h.is; fault_is = h.fault_is }

module _ (names : List (List ℕ)) (tree : TreeParts) (machine : Machine) (at : ℕ) (way : Way) (told : Result Given spec.LineFault) (given : Given) (is : told ≡ Ok given) where
  abbrev encoded : Result ℕ (Refusal (List ℕ))
  encoded = encoding (way_path machine way) machine.configuration given.pairs (unwrap_or given.rest 0)

  pub word_said : (w : ℕ) → encoded ≡ Ok w → of_given machine at way told ≡ Ok w
  word_said w h = ap (of_given machine at way) is ∙ ap (encoded_at at way) h

  pub fault_said : (code : EncodeFault) → IsRefusedAt names tree way code encoded → IsRefused names tree (record { at = at; why = why.Encode code }) (of_given machine at way told)
  fault_said code h =
      let why_is : IsEncode names tree code (spec.Encode way h.refusal) = record { way = way; refusal = h.refusal; is = refl; refusal_is = h.refusal_is } in
      record {
        fault = record { at = at; why = spec.Encode way h.refusal };
        is = ap (of_given machine at way) is ∙ ap (encoded_at at way) h.is;
        fault_is = record { at = refl; why = why_is };
      }
