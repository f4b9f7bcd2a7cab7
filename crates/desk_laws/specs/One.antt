-- What there is one of.
use Rattle.std.specs.Prelude.{◌≡◌, ℕ, List, Result}
use Rattle.enq_table.specs.Table.{IsTable}
use Rattle.desk_state.specs.declared.desk.Desk.{Desk}
use Rattle.desk_state.specs.declared.request.Request.{Request}
use Rattle.desk_state.specs.declared.request.Next.{Next}
use Rattle.desk_state.specs.Desks.{Answers}
use Rattle.desk_route.specs.Places.{Place, HasPath}
use Rattle.desk_route.specs.Asks.{Wish}
use Rattle.desk_body.specs.Wanted.{Makes}
use Rattle.desk_request.specs.Reads.{Reads}

abbrev pub OnePlace : Type 0
OnePlace = (path : List ℕ) (left right : Place) → HasPath left path → HasPath right path → left ≡ right

abbrev pub OneRequest : Type 0
OneRequest = (wish : Wish) (body : List ℕ) (left right : Request) → Makes wish body left → Makes wish body right → left ≡ right

abbrev pub OneReading : Type 0
OneReading = (input : List ℕ) (left right : Result Request ℕ) → Reads input left → Reads input right → left ≡ right

-- in a desk whose holds are a table, a request has one answer and leaves one desk
abbrev pub OneAnswer : Type 0
OneAnswer = (old : Desk) (request : Request) (left right : Desk) (a b : Next) → IsTable old.held → Answers old request left a → Answers old request right b → (left ≡ right) × (a ≡ b)
