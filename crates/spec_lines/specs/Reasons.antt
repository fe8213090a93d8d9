-- The reason why a line is refused, as it is printed.
use Rattle.std.specs.Prelude.{ℕ, List, [], ◌++◌, codes, decimal, slice_get, option_map, unwrap_or}
use Rattle.spec_instructions.specs.Tree.{Own}
use Rattle.spec_encoding.specs.Refusal.{Refusal, UnknownField, DoubledField, MissingField, TooWide, Clash, FixedBit, RestBit, Excluded}
use Rattle.spec_decode.specs.Machine.{Machine}
use Rattle.spec_lines.specs.Way.{way_path}
use Rattle.spec_lines.specs.LineFault.{LineWhy, Long, Head, Label, Pair, Many, Encode}

-- the name of a node of a path, by its place from the root
abbrev pub node_name : List Own → ℕ → List ℕ
node_name path place = unwrap_or (option_map (λ own. own.name) (slice_get path place)) []

abbrev pub refusal_text : List Own → Refusal (List ℕ) → List ℕ
refusal_text path (UnknownField i) = codes "unknown " ++ decimal i
refusal_text path (DoubledField i) = codes "doubled " ++ decimal i
refusal_text path (MissingField name) = codes "missing " ++ name
refusal_text path (TooWide i) = codes "wide " ++ decimal i
refusal_text path (Clash bit) = codes "clash " ++ decimal bit
refusal_text path (FixedBit bit) = codes "fixed " ++ decimal bit
refusal_text path (RestBit bit) = codes "restbit " ++ decimal bit
refusal_text path (Excluded node) = codes "excluded " ++ node_name path node

abbrev pub reason : Machine → LineWhy → List ℕ
reason machine Long = codes "long"
reason machine Head = codes "head"
reason machine Label = codes "label"
reason machine Pair = codes "pair"
reason machine Many = codes "many"
reason machine (Encode way why) = refusal_text (way_path machine way) why
