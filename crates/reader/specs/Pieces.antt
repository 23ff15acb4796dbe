-- What one reading gives: the first word or the comment from a place on.
use Rattle.std.specs.Prelude.{◌≡◌, ℕ, ◌+◌, ◌-◌, ◌≤◌, List, length, take, drop, Some, None, Ok, Err, Option, Result}
use Rattle.reader.specs.declared.types.Piece.{Piece}
use Rattle.reader.specs.declared.types.Piece.TheVariants.{Run, Comment}
use Rattle.units.specs.declared.fault.Fault.{Fault}
use Rattle.reader.specs.declared.types.Item.{Item}
use Rattle.reader.specs.declared.types.Word.{Word}
use Rattle.reader.specs.Runs.{IsRun, IsComment}
use Rattle.reader.specs.Words.{ItemIs, item_of, text_of, place_of, Declined}

-- no word begins at p or after it
abbrev pub NoRun : List ℕ → ℕ → Type 0
NoRun bs p = (s e : ℕ) → IsRun bs s e → p ≤ s → ⊥

-- Nothing is left from p on, and the reader comes to q, the end.
pub record Ended (bs : List ℕ) (p q : ℕ) : Type 0 where
  pub end : q ≡ length bs
  pub no_run : NoRun bs p
  pub no_comment : (s : ℕ) → IsComment bs s → p ≤ s → ⊥

-- `part` is the first word from p on; it stands at `at`, and the reader comes to q, its end.
pub record RunRead (bs : List ℕ) (p q : ℕ) (part : List ℕ) (at : ℕ) : Type 0 where
  pub from : p ≤ at
  pub is_run : IsRun bs at q
  pub is_part : part ≡ take (q - at) (drop at bs)
  pub size : at + length part ≡ q
  pub first : (s e : ℕ) → IsRun bs s e → p ≤ s → at ≤ s

-- `part` is the comment, at `at`, no word begins from p on, and the reader comes to q, the end.
pub record CommentRead (bs : List ℕ) (p q : ℕ) (part : List ℕ) (at : ℕ) : Type 0 where
  pub from : p ≤ at
  pub is_comment : IsComment bs at
  pub is_part : part ≡ drop at bs
  pub end : q ≡ length bs
  pub no_run : NoRun bs p

abbrev pub Reads : List ℕ → ℕ → ℕ → Option Piece → Type 0
Reads bs p q None = Ended bs p q
Reads bs p q (Some (Run t at)) = RunRead bs p q t.now at
Reads bs p q (Some (Comment t at)) = CommentRead bs p q t.now at

-- The first word from p on is declined with f.
pub record DeclinedRead (bs : List ℕ) (p q : ℕ) (f : Fault) : Type 0 where
  pub at : ℕ
  pub text : List ℕ
  pub run : RunRead bs p q text at
  pub declined : Declined text at f

-- x is what the first word from p on says
pub record ItemRead (bs : List ℕ) (p q : ℕ) (text : List ℕ) (at : ℕ) (x : Item) : Type 0 where
  pub run : RunRead bs p q text at
  pub says : ItemIs text at x

abbrev pub GivenAs : List ℕ → ℕ → ℕ → List ℕ → ℕ → Option Item → Type 0
GivenAs bs p q t at None = CommentRead bs p q t at
GivenAs bs p q t at (Some x) = ItemRead bs p q t at x

-- What is read from p on, up to q: nothing more, the next word or the comment with its own bytes and place, or why that word is declined.
abbrev pub WordRead : List ℕ → ℕ → ℕ → Option (Result Word Fault) → Type 0
WordRead bs p q None = Ended bs p q
WordRead bs p q (Some (Ok w)) = GivenAs bs p q (text_of w) (place_of w) (item_of w)
WordRead bs p q (Some (Err f)) = DeclinedRead bs p q f
