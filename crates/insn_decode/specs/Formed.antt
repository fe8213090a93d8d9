-- What holds of the arrays of every decider.
use Rattle.std.specs.Prelude.{◌≡◌, ℕ, List, map}
use Rattle.spec_decode.specs.Bucket.{Encoding}
use Rattle.insn_tree.specs.declared.leaf_id.LeafId.{LeafId}
use Rattle.insn_decode.specs.declared.member.Member.{Member}
use Rattle.insn_decode.specs.declared.node.Node.{Node}
use Rattle.insn_decode.specs.Members.{encoding_of}
use Rattle.insn_decode.specs.Decides.{Decides}

-- the tree of tests tells some leaves apart, and the numbers of leaves stand in the order of their buckets
pub record AreFormed (nodes : List Node) (order : List Member) (leaves : List LeafId) (root : ℕ) : Type 0 where
  pub some : (es : List Encoding) × Decides nodes (map encoding_of order) root es
  pub leaves_are : map (λ l. l.0) leaves ≡ map (λ m. m.leaf.0) order
