use Rattle.std.proofs.Common.{◌≡◌, ◌++◌, ◌+◌, ◌<◌, ◌≤◌, length, flat_map, All}
use Rattle.spec_encoding.specs.Encoding.{own_pairs}
use Rattle.spec_lines.specs.Pairs.{pair_text}
use Rattle.spec_lines.specs.Way.{way_path}
use Rattle.insn_tree.specs.Visible.{FlatField}
use Rattle.list_words.specs.Listers.{machine}
use Rattle.list_words.specs.Ways.{way_by}
use Rattle.list_words.proofs.PairLaws.{pair_at}
use Rattle.list_words.proofs.pairs.push_fields.Given as goal

-- with those that are left, all shown fields are told; and those lie within the word and have names that are held
abbrev pub invariant-loop-field : goal.invariant-loop-field
invariant-loop-field l = record {
  told : l.out.items ++ flat_map (pair_at l.lister.names.now l.w) l.field-iterator ≡ l.fn.out.items ++ flat_map pair_text (own_pairs (way_path (machine l.lister) (way_by l.fn.path)) l.w);
  within : All (λ (f : FlatField). f.start + f.width ≤ 32) l.field-iterator;
  held : All (λ (f : FlatField). f.name < length l.lister.names.now) l.field-iterator;
}
