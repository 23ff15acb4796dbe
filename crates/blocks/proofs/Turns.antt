-- What one turn over the words keeps, and where it stops.
use Rattle.std.proofs.Common.{◌≡◌, ℕ, ◌<◌, ◌≤◌, Bool, true, false, not, List, [], ◌∷◌, length, Some, Ok, Err, Option, Result, sym, refl, ap, ◌∙◌, subst, arith}
use Rattle.std.specs.List.{AllByRecursion}
use Rattle.std.proofs.ByRecursion.{All-weaker}
use Rattle.std.proofs.lemmas.Bool.{not-true, not-false}
use Rattle.units.specs.declared.fault.Fault.{Fault}
use Rattle.units.specs.declared.fault.Fault.TheVariants.{Repeated}
use Rattle.reader.specs.declared.types.Item.{Item}
use Rattle.reader.specs.declared.types.Word.{Word}
use Rattle.reader.specs.Pieces.{Ended, CommentRead, ItemRead, DeclinedRead, GivenAs, WordRead}
use Rattle.reader.specs.Words.{text_of, place_of, item_of}
use Rattle.reader.specs.WordList.{words as word_list}
use Rattle.blocks.specs.declared.gathered.Slots.{Slots}
use Rattle.blocks.specs.declared.gathered.Order.{Order}
use Rattle.blocks.specs.Slots.{taken, put}
use Rattle.blocks.specs.Found.{slots_of, Unrepeated}
use Rattle.blocks.specs.Order.{order_of, noted}
use Rattle.blocks.specs.Block.{settle}
use Rattle.blocks.specs.Gathers.{Rising, Stops, Gathers}
use Rattle.blocks.proofs.Held.{taken_is, put_is}
use Rattle.blocks.proofs.Settled.{settle_on, settle_word, settle_wrong, settle_again}

-- what `next_word` and `item` tell, over the block's bytes
module _ (bs b : List ℕ) (p q : ℕ) (same : b ≡ bs) (r : Result Word Fault) (read : WordRead b p q (Some r)) where
  here : WordRead bs p q (Some r)
  here = subst (λ c. WordRead c p q (Some r)) same read

  pub given : (w : Word) (o v : Option Item) → r ≡ Ok w → o ≡ item_of w → o ≡ v → GivenAs bs p q (text_of w) (place_of w) v
  given w o v e f g = subst (GivenAs bs p q (text_of w) (place_of w)) (sym f ∙ g) (subst (λ t. WordRead bs p q (Some t)) e here)

  pub declined : (f : Fault) → r ≡ Err f → DeclinedRead bs p q f
  declined f e = subst (λ t. WordRead bs p q (Some t)) e here

-- s and o hold the words that begin before p
pub record Kept (bs : List ℕ) (p : ℕ) (s : Slots) (o : Order) : Type 0 where
  pub words : List Item
  pub below : AllByRecursion (λ x. x.place < p) words
  pub rising : Rising words
  pub right : Unrepeated words
  pub held : s ≡ slots_of words
  pub order : o ≡ order_of words
  pub settled : settle (word_list bs p) ≡ Ok words

module _ (bs : List ℕ) (p q : ℕ) (s : Slots) (o : Order) (k : Kept bs p s o) where
  tells : (x : Item) (b : Bool) → b ≡ taken s x.says → taken (slots_of k.words) x.says ≡ b
  tells x b e = ap (λ u. taken u x.says) (sym k.held) ∙ sym e

  module _ (at : ℕ) (t : List ℕ) (x : Item) (r : ItemRead bs p q t at x) where
    pub next_word : (s' : Slots) (o' : Order) (b : Bool) → b ≡ true → b ≡ not (taken s x.says) → (b ≡ true → s' ≡ put s x) → o' ≡ noted o x → Kept bs q s' o'
    next_word s' o' b told is puts n =
        let free = sym (not-true (taken s x.says) (sym is ∙ told)) in
        let e = puts told in
        let new = sym (taken_is k.words x.says) ∙ tells x false free in
        let from = r.run.from in
        let some = r.run.is_run.some in
        let here = r.says.place in
        record {
          words = x ∷ k.words;
          below = (omega arith, All-weaker (λ y. y.place < p) (λ y. y.place < q) (λ y l. omega arith) k.words k.below);
          rising = (All-weaker (λ y. y.place < p) (λ y. y.place < x.place) (λ y l. omega arith) k.words k.below, k.rising);
          right = (new, k.right);
          held = e ∙ ap (λ u. put u x) k.held ∙ put_is k.words x;
          order = n ∙ ap (λ u. noted u x) k.order;
          settled = settle_word bs p q at t k.words r.run k.settled x r.says new;
        }

    pub stop_repeated : (b : Bool) → b ≡ false → b ≡ not (taken s x.says) → Stops bs (Repeated x.place)
    stop_repeated b full is =
        let e = sym (not-false (taken s x.says) (sym is ∙ full)) in
        settle_again bs p q at t k.words r.run k.settled x r.says (sym (taken_is k.words x.says) ∙ tells x true e)

  pub stop_declined : (f : Fault) → DeclinedRead bs p q f → Stops bs f
  stop_declined f d = settle_wrong bs p q d.at d.text k.words d.run k.settled f d.declined

  pub past_comment : (at : ℕ) (t : List ℕ) → CommentRead bs p q t at → Kept bs q s o
  past_comment at t r =
      let on : p ≤ q = omega (arith, r.from, r.end, r.is_comment.within) in
      record {
        words = k.words;
        below = All-weaker (λ y. y.place < p) (λ y. y.place < q) (λ y l. omega arith) k.words k.below;
        rising = k.rising;
        right = k.right;
        held = k.held;
        order = k.order;
        settled = settle_on bs q p k.words on (omega (arith, r.end)) (λ a e run l h. r.no_run a e run l) k.settled;
      }

  pub all_read : p ≤ length bs → Ended bs p q → Gathers bs (record { slots = s; order = o })
  all_read on r = record {
    words = k.words;
    rising = k.rising;
    right = k.right;
    held = k.held;
    order = k.order;
    settled = settle_on bs (length bs) p k.words on (omega arith) (λ a e run l h. r.no_run a e run l) k.settled;
  }

pub start : (bs : List ℕ) (s : Slots) (o : Order) → s ≡ slots_of [] → o ≡ order_of [] → Kept bs 0 s o
start bs s o e f = record { words = []; below = tt; rising = tt; right = tt; held = e; order = f; settled = refl }
