use Rattle.std.proofs.Common.{rules, ◌≡◌, ℕ, ◌<◌, ◌≤◌, ◌+◌, ◌-◌, ◌∷◌, length, subst}
use Rattle.std.proofs.lemmas.Result.{err_from_is_err_and}
use Rattle.dump_read.specs.declared.track.TrackField.TheVariants as fields
use Rattle.dump_read.specs.TrackFields.{IsNumberStop}
use Rattle.dump_read.proofs.TrackChain.{number_cut, number_wrong, key_cut, key_wrong, body_stops}
use Rattle.dump_read.proofs.record.head_in.Goals as goal

pub returns-in_default-clause-stops : goal.returns-in_default-clause-stops
returns-in_default-clause-stops c =
    let none : length c.args.bytes.now ≡ 0 = search rules in
    number_cut c.args.room c.args.start c.args.bytes.now c.requires.room none

pub returns-then-r-eq0-clause-stops : goal.returns-then-r-eq0-clause-stops
returns-then-r-eq0-clause-stops c =
    let is : c.args.bytes.now ≡ c.in-Some.r.now ∷ c.in-Some.keyed.now = search rules in
    let none : c.in-Some.r.now ≡ 0 = search rules in
    number_wrong c.args.room c.args.start c.in-Some.r.now c.args.bytes.now c.in-Some.keyed.now c.requires.room is none

pub returns-in_default-split_first-clause-stops : goal.returns-in_default-split_first-clause-stops
returns-in_default-split_first-clause-stops c =
    let is : c.args.bytes.now ≡ c.in-Some.r.now ∷ c.in-Some.keyed.now = search rules in
    let some : 1 ≤ c.in-Some.r.now = search rules in
    let few : c.in-Some.r.now ≤ 255 = search rules in
    let none : length c.in-Some.keyed.now ≡ 0 = search rules in
    key_cut c.args.room c.args.start c.in-Some.r.now c.args.bytes.now c.in-Some.keyed.now c.requires.room some few is none

pub returns-then-from-room-clause-stops : goal.returns-then-from-room-clause-stops
returns-then-from-room-clause-stops c =
    let is : c.args.bytes.now ≡ c.in-Some.r.now ∷ c.in-Some.keyed.now = search rules in
    let some : 1 ≤ c.in-Some.r.now = search rules in
    let few : c.in-Some.r.now ≤ 255 = search rules in
    let there : c.in-Some.keyed.now ≡ c.in-Some-split_first.key.now ∷ c.in-Some-split_first.bodied.now = search rules in
    let long : c.args.room < c.in-Some-split_first.key.now = search rules in
    key_wrong c.args.room c.args.start c.in-Some.r.now c.in-Some-split_first.key.now c.args.bytes.now c.in-Some.keyed.now c.in-Some-split_first.bodied.now c.requires.room some few is there long

pub returns-in_err-body-clause-stops : goal.returns-in_err-body-clause-stops
returns-in_err-body-clause-stops c =
    let p = err_from_is_err_and c.from_residual.result c.from_residual.ensures.1 in
    let is : c.args.bytes.now ≡ c.in-Some.r.now ∷ c.in-Some.keyed.now = search rules in
    let some : 1 ≤ c.in-Some.r.now = search rules in
    let few : c.in-Some.r.now ≤ 255 = search rules in
    let there : c.in-Some.keyed.now ≡ c.in-Some-split_first.key.now ∷ c.in-Some-split_first.bodied.now = search rules in
    let fits : c.in-Some-split_first.key.now ≤ 255 = search rules in
    let within : c.in-Some-split_first.key.now ≤ c.args.room = search rules in
    let same : c.from-2.result ≡ c.in-Some-split_first.key.now = search rules in
    let stops : IsNumberStop fields.Body (c.args.start + 2) (c.args.room - c.in-Some-split_first.key.now) c.in-Some-split_first.bodied.now c.in_err-body.field-0.0 =
    subst (λ (n : ℕ). IsNumberStop fields.Body (c.args.start + 2) (c.args.room - n) c.in-Some-split_first.bodied.now c.in_err-body.field-0.0) same c.in_err-body.ensures.stops in
    rw (p.1, p.2) (body_stops c.args.room c.args.start c.in-Some.r.now c.in-Some-split_first.key.now c.args.bytes.now c.in-Some.keyed.now c.in-Some-split_first.bodied.now c.in_err-body.field-0.0
    c.requires.room some few fits within is there stops)
