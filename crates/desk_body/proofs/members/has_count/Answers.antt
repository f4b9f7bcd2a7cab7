use Rattle.std.proofs.Common.{◌≡◌, ap, sym, ◌∙◌, Some}
use Rattle.std.proofs.lemmas.Bool.{eqb-true, eq-eqb}
use Rattle.serde_json.specs.View.{view, members_view}
use Rattle.serde_json.specs.Find.{as_object}
use Rattle.desk_body.specs.Bodies.{count}
use Rattle.desk_body.proofs.Counts.{count_members}
use Rattle.desk_body.proofs.members.has_count.Goals as goal

pub returns-in-Some : goal.returns-in-Some
returns-in-Some c =
    let entries = c.in-Some.members.now.entries in
    let is : Some (members_view entries) ≡ as_object (view c.args.value.now) = c.in-Some.ensures in (
      λ same. (members_view entries, sym is, count_members entries ∙ sym c.len.ensures.len ∙ eqb-true c.len.result c.args.count same),
      λ h. eq-eqb c.len.result c.args.count
          (let both : Some (members_view entries) ≡ Some h.0 = is ∙ h.1 in
          let one : members_view entries ≡ h.0 = cc in
          c.len.ensures.len ∙ sym (count_members entries) ∙ ap count one ∙ h.2),
    )
