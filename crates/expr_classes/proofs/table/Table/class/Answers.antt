use Rattle.expr_classes.proofs.Inserted.{put}
use Rattle.expr_classes.proofs.table.Table.class.Goals as goal

pub invariant_of-self-2 : goal.invariant_of-self-2
invariant_of-self-2 c =
    let s = c.in_ok-class.ensures.stored in
    let p = put _ c.self.inside.keys.keys c.insert_full.new.self.keys c.args.key s.0 c.in_ok-class.class c.self.view_is c.self.invariant c.requires c.in_ok-class.ensures.keys s.1 s.2 in
    p.keys

pub returns-clause-class : goal.returns-clause-class
returns-clause-class c =
    let s = c.in_ok-class.ensures.stored in
    let p = put _ c.self.inside.keys.keys c.insert_full.new.self.keys c.args.key s.0 c.in_ok-class.class c.self.view_is c.self.invariant c.requires c.in_ok-class.ensures.keys s.1 s.2 in
    p.class

pub returns-clause-more : goal.returns-clause-more
returns-clause-more c =
    let s = c.in_ok-class.ensures.stored in
    let p = put _ c.self.inside.keys.keys c.insert_full.new.self.keys c.args.key s.0 c.in_ok-class.class c.self.view_is c.self.invariant c.requires c.in_ok-class.ensures.keys s.1 s.2 in
    p.more

pub returns-clause-apart : goal.returns-clause-apart
returns-clause-apart c =
    let s = c.in_ok-class.ensures.stored in
    let p = put _ c.self.inside.keys.keys c.insert_full.new.self.keys c.args.key s.0 c.in_ok-class.class c.self.view_is c.self.invariant c.requires c.in_ok-class.ensures.keys s.1 s.2 in
    p.keys.apart
