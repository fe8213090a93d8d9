use Rattle.std.proofs.Common.{◌≡◌, List, ◌++◌, Option, option_map, sym, ap, ◌∙◌, append-nil, ℕ}
use Rattle.mrs_arena.specs.Placed.{text_of}
use Rattle.mrs_arena.specs.Views.{node_put}
use Rattle.list_words.proofs.DownLaws.{names_to, names_down-step, name_pushed}
use Rattle.list_words.proofs.path_names.+push_path_names.Goals as goal
use Rattle.list_words.proofs.path_names.+push_path_names.Goals.{in-Some+in_ok-push_path_names-in-Some, in-None}

pub returns : goal.returns
returns t c =
    let step = names_down-step c.args.names.now c.args.arena.now.nodes c.args.n.0 (node_put c.args.arena.now.exprs c.node-node.result) c.node-node.ensures.own c.node-node.ensures.parent in
    let to : Option ℕ → List ℕ = λ o. c.args.out.now.items ++ names_to c.args.names.now c.args.arena.now.nodes o in
    let above : c.match-parent.out.items ≡ to c.node-node.result.parent = elim c.match-parent.branch [
      | in-Some+in_ok-push_path_names-in-Some w ↦ ap (λ v. v.items) w.out-is ∙ w.in_ok-push_path_names-in-Some.ensures ∙ ap to (sym (ap (option_map (λ p. p.0)) w.in-Some.is) ∙ c.parent.ensures)
      | in-None w ↦ ap (λ v. v.items) w.out-is ∙ sym (append-nil c.args.out.now.items) ∙ ap to (sym (ap (option_map (λ p. p.0)) w.in-None.is) ∙ c.parent.ensures)
    ] in
    name_pushed _ _ _ _ _ _ _ _ c.in_ok-extend_from_slice.ensures.items c.in_ok-push.ensures.items above (c.name_bytes.ensures ∙ ap (text_of c.args.names.now) c.name.ensures) step
