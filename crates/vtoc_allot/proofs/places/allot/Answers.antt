use Rattle.std.proofs.Common.{◌≡◌, ◌+◌, ◌≤◌, ◌++◌, List, length, filter, take, not, ap, subst, ◌∙◌, arith}
use Rattle.std.specs.Prelude.{slice_get}
use Rattle.volume_model.specs.declared.place.Place.{Place}
use Rattle.vtoc_allot.specs.Allotted.{listed, is_at, held_count, wanted_count, free_count, given_back, pool_of, wants_first, TakesFirst}
use Rattle.vtoc_allot.proofs.Parts.{first_kept}
use Rattle.vtoc_allot.proofs.Pools.{held_few, pool_some, parts_fit}
use Rattle.vtoc_allot.proofs.places.allot.Goals as goal

pub count-has-requires : goal.count-has-requires
count-has-requires c = omega (arith, held_few c.args.records.now c.args.held.now c.args.wanted c.requires.held c.requires.apart, c.requires.few_records)

pub overflow_add-has : goal.overflow_add-has
overflow_add-has c =
    omega (arith, held_few c.args.records.now c.args.held.now c.args.wanted c.requires.held c.requires.apart, c.requires.few_records, c.count-has.ensures, c.count_free-free.ensures.most)

pub pool_after_first-requires : goal.pool_after_first-requires
pool_after_first-requires c wants =
    let held = c.args.held.now in
    let wanted = c.args.wanted in
    let records = c.args.records.now in
    let room : wanted_count wanted ≤ held_count held + free_count records = omega (arith, c.if-has-free.false, c.count-has.ensures, c.count-wants.ensures, c.count_free-free.ensures.value) in
    let pool_is : c.in_ok-pool.pool ≡ pool_of records (given_back held wanted) = c.in_ok-pool.ensures ∙ ap (pool_of records) (c.as_slice.ensures ∙ c.in_ok-given.ensures) in
    omega (arith, ap length pool_is, pool_some records held wanted c.requires.held c.requires.apart room wants)

pub parts_of-parts-requires-clause-enough : goal.parts_of-parts-requires-clause-enough
parts_of-parts-requires-clause-enough c =
    let held = c.args.held.now in
    let wanted = c.args.wanted in
    let records = c.args.records.now in
    let room : wanted_count wanted ≤ held_count held + free_count records = omega (arith, c.if-has-free.false, c.count-has.ensures, c.count-wants.ensures, c.count_free-free.ensures.value) in
    let pool_is : c.in_ok-pool.pool ≡ pool_of records (given_back held wanted) = c.in_ok-pool.ensures ∙ ap (pool_of records) (c.as_slice.ensures ∙ c.in_ok-given.ensures) in
    let P : List Place → Type 0 = λ pool. TakesFirst c.args.second (wants_first held wanted) pool (listed c.in_ok-pool-2.pool.first) c.in_ok-pool-2.pool.places in
    parts_fit records held wanted c.requires.held c.requires.apart room c.args.second (listed c.in_ok-pool-2.pool.first) c.in_ok-pool-2.pool.places (subst P pool_is c.in_ok-pool-2.ensures)

pub returns-clause-allotted : goal.returns-clause-allotted
returns-clause-allotted c =
    let held = c.args.held.now in
    let wanted = c.args.wanted in
    let records = c.args.records.now in
    let given_is : c.as_slice.result.now ≡ given_back held wanted = c.as_slice.ensures ∙ c.in_ok-given.ensures in
    let pool_is : c.in_ok-pool.pool ≡ pool_of records (given_back held wanted) = c.in_ok-pool.ensures ∙ ap (pool_of records) given_is in
    let P : List Place → Type 0 = λ pool. TakesFirst c.args.second (wants_first held wanted) pool (listed c.in_ok-pool-2.pool.first) c.in_ok-pool-2.pool.places in
    let parts = c.parts_of-parts.result in
    record {
      first = c.in_ok-pool-2.pool.first;
      pool = c.in_ok-pool-2.pool.places;
      ones = parts.ones.now;
      threes = parts.threes.now;
      fives = parts.fives.now;
      first_is = subst P pool_is c.in_ok-pool-2.ensures;
      parts = c.parts_of-parts.ensures.parts;
      one_is = c.kept_or_new.ensures;
      three_is = c.kept_or_new-2.ensures ∙ ap (λ (kept : List Place). kept ++ parts.threes.now) (first_kept wanted.three held.threes c.first_of.result (c.first_of.ensures ∙ ap (λ (xs : List Place). slice_get xs 0) c.as_slice-2.ensures));
      fives_are =
          c.in_ok-fives_after.ensures
          ∙ (λ i. (c.front.ensures ∙ ap (take wanted.fives) c.as_slice-3.ensures) i ++ (listed (c.parts_of-parts.ensures.first i) ++ parts.fives.now));
      freed_are =
          c.in_ok-freed.ensures
          ∙ (λ i. filter (λ place. not (is_at ((c.as_slice-5.ensures ∙ c.in_ok-taken.ensures) i) place)) ((c.as_slice-4.ensures ∙ c.in_ok-given.ensures) i))
          ∙ ap (λ first. filter (λ place. not (is_at (listed first ++ (parts.ones.now ++ (parts.threes.now ++ parts.fives.now))) place)) (given_back held wanted)) c.parts_of-parts.ensures.first;
    }
