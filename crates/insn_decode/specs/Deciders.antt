-- What a decider is made of, and the leaves that it tells apart.
use Rattle.std.specs.Prelude.{◌≡◌, ℕ, List, map}
use Rattle.spec_decode.specs.Bucket.{Encoding, encodings, Bucket, AreWithinWord}
use Rattle.insn_tree.specs.Trees.{TreeParts, tree_paths}
use Rattle.insn_decode.specs.declared.node.Node.{Node}
use Rattle.insn_decode.specs.Decides.{Decides}

-- the nodes of the tree of tests, the leaves in the order of their buckets, and the topmost node
pub record DeciderParts : Type 0 where
  pub nodes : List Node
  pub order : List Encoding
  pub root : ℕ

-- a decider tells these leaves apart
abbrev pub Tells : DeciderParts → List Encoding → Type 0
Tells d es = Decides d.nodes d.order d.root es

-- the decider was made from that tree: it tells apart the leaves without clashes, whatever the texts of names
pub record IsDeciderOf (tree : TreeParts) (d : DeciderParts) : Type 0 where
  pub tells : (names : List (List ℕ)) → Tells d (encodings (tree_paths names tree))
  pub within : (names : List (List ℕ)) → AreWithinWord (tree_paths names tree)

-- these are the numbers of the leaves in the word's bucket, in order
pub record AreOfBucket (w : ℕ) (es : List Encoding) (numbers : List ℕ) : Type 0 where
  pub members : List Encoding
  pub is : Bucket w members es
  pub numbers_are : numbers ≡ map (λ e. e.leaf) members
