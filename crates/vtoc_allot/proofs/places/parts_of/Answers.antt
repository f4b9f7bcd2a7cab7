use Rattle.std.proofs.Common.{◌≡◌, ◌+◌, ◌-◌, ℕ, length, ap, ◌∙◌, arith}
use Rattle.vtoc_allot.specs.Allotted.{listed, one_if, new_fives}
use Rattle.vtoc_allot.proofs.Parts.{parts_by}
use Rattle.vtoc_allot.proofs.places.parts_of.Goals as goal

pub returns-clause-parts : goal.returns-clause-parts
returns-clause-parts c =
    let further : ℕ = c.saturating_sub-fives.result - c.count_of-2.result in
    let ones = c.missing.ensures ∙ ap (λ (n : ℕ). one_if c.args.wanted.one - n) c.count_of.ensures in
    let threes = c.missing-2.ensures ∙ ap (λ (n : ℕ). one_if c.args.wanted.three - n) c.len.ensures in
    let fives : c.saturating_sub-fives.result ≡ new_fives c.args.held.now c.args.wanted = c.saturating_sub-fives.ensures ∙ ap (λ (n : ℕ). c.args.wanted.fives - n) c.len-2.ensures in
    let few = c.requires.first in
    let sum : length (listed c.args.pool.now.first) + further ≡ new_fives c.args.held.now c.args.wanted = omega (arith, fives, c.count_of-2.ensures, few) in
    parts_by c.args.held.now c.args.wanted c.args.pool.now.first c.args.pool.now.places c.as_slice-places.result.now c.split_at.result.0.now c.split_at.result.1.now c.split_at-2.result.0.now
    c.split_at-2.result.1.now c.front.result.now c.missing.result c.missing-2.result further c.as_slice-places.ensures c.split_at.ensures.front c.split_at.ensures.back c.split_at-2.ensures.front
    c.split_at-2.ensures.back c.front.ensures ones threes sum (omega (arith, ones, threes, sum, c.requires.enough))
