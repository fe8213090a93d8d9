use Rattle.std.proofs.Common.{◌≡◌, ◌∙◌, sym, ap, subst, map, string_bytes, Some, None, [], ◌∷◌, ◌++◌, length, ◌<◌, arith}
use Rattle.std.proofs.lemmas.List.{length-map}
use Rattle.mrs_names.specs.Texts.{name_limit, place_of, AreNames}
use Rattle.mrs_names.proofs.PlaceLaws.{inserted, AreNames-new, place_of-new, with_name-new}
use Rattle.mrs_names.proofs.names.Names.intern.Goals as goal

-- the text is new
absent : (c : goal.In-Ok) → place_of c.args.text.now c.args.self.now ≡ None
absent c = sym c.in_default.ensures

-- and is put behind the others
grown : (c : goal.In-Ok) → map string_bytes c.insert.new.self.keys ≡ c.args.self.now ++ c.args.text.now ∷ []
grown c =
    let text = c.args.text.now in
    ap (map string_bytes) c.in-Ok.ensures.keys
    ∙ inserted string_bytes text c.self.inside.texts.keys c.in_ok-copy.copy c.in_ok-copy.ensures.ok (ap (λ names. place_of text names) c.self.view_is ∙ absent c)
    ∙ ap (λ names. names ++ text ∷ []) c.self.view_is

counted : (c : goal.In-Ok) → c.len-number.result ≡ length c.args.self.now
counted c = c.len-number.ensures.len ∙ sym (length-map c.self.inside.texts.keys string_bytes) ∙ ap length c.self.view_is

-- and are names still
held : (c : goal.In-Ok) → AreNames (map string_bytes c.insert.new.self.keys)
held c =
    let room : length c.args.self.now < name_limit = omega (arith, counted c) in
    let before = subst AreNames c.self.view_is c.self.invariant in
    subst AreNames (sym (grown c)) (AreNames-new c.args.text.now c.args.self.now (absent c) room before)

pub invariant_of-self-2 : goal.invariant_of-self-2
invariant_of-self-2 c = held c

pub returns-clause-held : goal.returns-clause-held
returns-clause-held c = held c

pub returns-clause-place : goal.returns-clause-place
returns-clause-place c = ap (λ names. place_of c.args.text.now names) (grown c) ∙ place_of-new c.args.text.now c.args.self.now (absent c) ∙ ap Some (sym (counted c))

pub returns-clause-names : goal.returns-clause-names
returns-clause-names c = grown c ∙ sym (with_name-new c.args.text.now c.args.self.now (absent c))
