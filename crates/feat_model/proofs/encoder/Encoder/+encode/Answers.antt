use Rattle.std.proofs.Common.{ap, arith}
use Rattle.spec_features.specs.Formula.{size}
use Rattle.feat_model.specs.Views.{formula_of}
use Rattle.feat_model.proofs.Rooms.{right_room, whole_room}
use Rattle.feat_model.proofs.encoder.Encoder.+encode.Goals as goal

pub encode-requires-in-Joined-2 : goal.encode-requires-in-Joined-2
encode-requires-in-Joined-2 t c =
    let h = right_room _ _ _ _ _ _ _ _ _ _ _ c.requires (ap formula_of c.in-Joined.is) (ap formula_of c.deref-in-Joined.ensures) (ap formula_of c.deref-in-Joined-2.ensures)
    c.in_ok-left-in-Joined.ensures in
    let whole = ap (λ f. size (formula_of f)) c.in-Joined.is in
    let part = ap (λ f. size (formula_of f)) c.deref-in-Joined-2.ensures in
    (omega (arith, c.decreases, whole, part), h)

pub take-whole-requires : goal.take-whole-requires
take-whole-requires t c =
    whole_room _ _ _ _ _ _ _ _ _ _ _ _ _ _ c.requires (ap formula_of c.in-Joined.is) (ap formula_of c.deref-in-Joined.ensures) (ap formula_of c.deref-in-Joined-2.ensures)
    c.in_ok-left-in-Joined.ensures c.in_ok-right-in-Joined.ensures
