use Rattle.std.proofs.Common.{inl, inr, ◌∷◌, [], List, refl, sym, subst, ◌∙◌}
use Rattle.std.specs.Prelude.{map}
use Rattle.std.proofs.lemmas.List.{append_cancel_left}
use Rattle.std.proofs.lemmas.Result.{on_ok_weaker}
use Rattle.job_lines.specs.declared.message.Message.{Message}
use Rattle.move_core.specs.Facts.{Facts}
use Rattle.dump_sets.specs.job_turns.Refusal.{Standing, standing_of, IsUnitOf, Refuses, Lets}
use Rattle.job_ops.specs.Listing.{listed, IsListing}
use Rattle.dump_sets.proofs.job_turns.LoadedUnits.{known_units}
use Rattle.dump_sets.proofs.job_turns.Standing.{standings_are, volume_of}
use Rattle.job_ops.proofs.listing.print.Goals as goal

pub returns-in-Err-clause-listed : goal.returns-in-Err-clause-listed
returns-in-Err-clause-listed g c =
    let s = c.args.session.now in
    let message = c.in-Err.message in
    let uses = listed c.args.serial ∷ [] in (
      message ∷ [],
      c.in_ok-push-in-Err.ensures.items,
      λ setting same told units settled.
          let stands = standings_are s.units units (c.in-Err.ensures.models told units settled) in (
            refl,
            inl (
              message,
              subst (λ (f : Facts). Refuses f.names f.room (map standing_of units) uses message) (sym same)
                  (subst (λ (l : List Standing). Refuses s.names s.room l uses message) (sym stands) c.in-Err.ensures.refused),
              refl,
            ),
          ),
    )

pub returns-clause-listed : goal.returns-clause-listed
returns-clause-listed g c =
    let s = c.args.session.now in
    let before = c.args.messages.now.items in
    let uses = listed c.args.serial ∷ [] in
    let grown = c.push_listing.ensures.grows in
    on_ok_weaker c.push_listing.result (λ list. (
      grown.0,
      grown.1,
      λ setting same told units settled.
          let are = c.in-Ok.ensures.models told units settled in
          let stands = standings_are s.units units are in
          let got = volume_of s.units units are c.in-Ok.unit c.volume.result.now c.volume.ensures in
          let said = list got.0 got.2 in (
            refl,
            inr (
              c.in-Ok.unit,
              got.0,
              subst (λ (f : Facts). Lets f.names f.room (map standing_of units) uses) (sym same) (subst (λ (l : List Standing). Lets s.names s.room l uses) (sym stands) c.in-Ok.ensures.lets),
              subst (λ (f : Facts). IsUnitOf f.names c.args.serial c.in-Ok.unit) (sym same) c.in-Ok.ensures.unit.unit_is,
              got.1,
              subst (λ (l : List Message). IsListing got.0 l) (append_cancel_left before said.0 grown.0 (sym said.1 ∙ grown.1)) said.2,
            ),
          ),
    )) c.push_listing.ensures.listed

pub volume-requires : goal.volume-requires
volume-requires g c = (c.in-Ok.ensures.unit.volume, c.in-Ok.ensures.unit.loaded)

pub push_listing-requires : goal.push_listing-requires
push_listing-requires g c = (known_units g.P.Pool c.args.session.now c.stands.ensures.kept c.stands.ensures.models).sound c.in-Ok.unit c.volume.result.now c.volume.ensures
