use Rattle.json.specs.Print.{escape_byte}
use Rattle.std.proofs.Common.{ap, sym, ◌∙◌, ◌≡◌, ◌+◌, ◌++◌, ◌∷◌, [], take, false, List, ℕ, ltb, arith, append_assoc, map}
use Rattle.std.proofs.lemmas.List.{take_all}
use Rattle.serde_json.specs.Written.{compact_text, comma_if, items_text}
use Rattle.serde_json.specs.View.{items_of}
use Rattle.desk_text.specs.declared.job.Job.{Job}
use Rattle.desk_text.specs.Values.{line_value}
use Rattle.desk_text.proofs.Pieces.{more, from_none, adds_as}
use Rattle.desk_text.proofs.Joined.{joined, joined_more, items_joined}
use Rattle.desk_text.proofs.bodies.jobs_body.Goals as goal

pub loop-place-preserved : goal.loop-place-preserved
loop-place-preserved c =
    let jobs = c.args.jobs.now in
    let i = c.loop-place.place in
    let job = c.index-jobs-place.result in
    adds_as (joined false (take (i + 1) jobs)) (more c.loop-place.invariant (more c.in_ok-push_comma.ensures c.in_ok-push_line.ensures))
    (ap (λ (j : Job). joined false (take i jobs) ++ (comma_if (ltb 0 i) ++ compact_text (line_value j))) c.index-jobs-place.is ∙ sym (joined_more jobs i job (omega arith)))

pub returns : goal.returns
unfolding escape_byte
returns c =
    let jobs = c.args.jobs.now in
    let all : joined false (take c.loop-place.place jobs) ≡ joined false jobs = ap (joined false) (take_all c.loop-place.place jobs (omega arith)) in
    let ends : joined false jobs ++ (93 ∷ 125 ∷ []) ≡ items_text false (items_of (map line_value jobs)) ++ (125 ∷ []) =
    sym (ap (λ (l : List ℕ). l ++ (125 ∷ [])) (items_joined false jobs) ∙ append_assoc (joined false jobs) (93 ∷ []) (125 ∷ [])) in
    from_none (more c.in_ok-push_text.ensures (adds_as (items_text false (items_of (map line_value jobs)) ++ (125 ∷ []))
    (more (adds_as (joined false jobs) c.loop-place.invariant all) c.in_ok-push_text-2.ensures) ends)) c.new-body.ensures
