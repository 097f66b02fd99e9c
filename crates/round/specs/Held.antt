-- What a place holds. Assumes nothing.
use Rattle.std.specs.Prelude.{ℕ, Bool}
use Rattle.book.specs.Held.{book_model}
use Rattle.book.specs.Model.{Model}
use Rattle.matching.specs.Groups.{Group}
use Rattle.round.specs.declared.place.Place.{Place}

-- a place: the standing and the limit that it keeps, and its round
pub record PlaceModel (S L : Type 0) : Type 0 where
  pub standing : S
  pub limit : L
  pub round : Model

abbrev pub place_of : {S L : Type 0} → Place S L → PlaceModel S L
place_of p = record { standing = p.standing; limit = p.limit; round = book_model p.book }

-- a call of the round, carried out on a place: the standing and the limit stay
abbrev pub on_place : {A S L : Type 0} → (L → ℕ → Group → Bool) → ((ℕ → Group → Bool) → Model → A × Model) → PlaceModel S L → A × PlaceModel S L
on_place family call p = ((call (family p.limit) p.round).0, record { standing = p.standing; limit = p.limit; round = (call (family p.limit) p.round).1 })
