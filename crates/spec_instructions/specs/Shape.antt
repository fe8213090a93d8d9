-- What holds of the tree of every document that is accepted: where each kind stands, and what its names and items are.
use Rattle.std.specs.Prelude.{◌≡◌, ◌≢◌, ◌⊎◌, ◌≤◌, ◌+◌, List, [], ◌∷◌, length, true, IfSome, ⊤}
use Rattle.std.specs.List.{AllByRecursion}
use Rattle.spec_bits.specs.Item.{Item}
use Rattle.spec_instructions.specs.Name.{is_name}
use Rattle.spec_instructions.specs.Kind.{Kind, Set, Instance, kinds_in}
use Rattle.spec_instructions.specs.Encodeset.{is_field_name}
use Rattle.spec_instructions.specs.Tree.{Own, Node, node, Nodes, no_nodes, more}

-- ---- kinds

-- a kind is one of these
abbrev pub IsAmong : Kind → List Kind → Type 0
IsAmong kind [] = ⊥
IsAmong kind (k ∷ ks) = (kind ≡ k) ⊎ IsAmong kind ks

-- a node of that kind may stand where these kinds may: no instance is a node
pub record MayStand (kinds : List Kind) (kind : Kind) : Type 0 where
  pub among : IsAmong kind kinds
  pub is_node : kind ≢ Instance

abbrev pub node_kind : Node → Kind
node_kind (node own kids) = own.kind

abbrev mutual
  -- below each node stand only nodes that may
  pub IsShaped : Node → Type 0
  IsShaped (node own kids) = AreShaped (kinds_in own.kind) kids

  pub AreShaped : List Kind → Nodes → Type 0
  AreShaped kinds no_nodes = ⊤
  AreShaped kinds (more n ns) = MayStand kinds (node_kind n) × (IsShaped n × AreShaped kinds ns)

-- ---- names and items

-- an item has digits, within the word, and a mark for each; a field's name is a name, and none of the words `rest` and `sys`
pub record IsSoundItem (it : Item) : Type 0 where
  pub name : IfSome it.name (λ s. is_field_name s ≡ true)
  pub some : 1 ≤ length it.digits
  pub fits : it.start + length it.digits ≤ 32
  pub marks : length it.marks ≡ length it.digits

pub record IsSoundOwn (own : Own) : Type 0 where
  pub name : is_name own.name ≡ true
  pub items : AllByRecursion IsSoundItem own.items

abbrev mutual
  -- so it is at each node
  pub IsSound : Node → Type 0
  IsSound (node own kids) = IsSoundOwn own × AreSound kids

  pub AreSound : Nodes → Type 0
  AreSound no_nodes = ⊤
  AreSound (more n ns) = IsSound n × AreSound ns

-- ---- the whole tree: its root is a set, and since no kind may have a set below it, no other node is

pub record IsSetTree (set : Node) : Type 0 where
  pub root : node_kind set ≡ Set
  pub shaped : IsShaped set
  pub sound : IsSound set
