-- An image with four equal copies over it: what is found depends on the copies by their choice alone.
use Rattle.std.proofs.Common.{◌≡◌, ◌⊎◌, inl, inr, ℕ, List, Option, Some, refl, sym, ap, subst, arith}
use Rattle.df_theory.{specs.{Units.{AnyUnit, BlockPlace, Content, CopyPlace, CopyUnit, HeaderPlace, Message, Place, PreparePlace, ReplyPlace, Units}, Shape.{Shape, slots}, Copies.{IsChosen}, View.{Checkpoint, View}, Shows.{Agrees}, Holds.{Holds}, Groups.{AreMore}, Cases.{Takes}, Found.{AreOfPlaces, IsClean, IsFound, IsOfPlace}}, proofs.{Choices.{chosen_above}, Images.{IsOpen, bears_open, short_same}, Founds.{found_holds, holds_found}}}

-- an image with these copies
abbrev pub with_copies : (ℕ → Option AnyUnit) → Units → Units
with_copies copies image (CopyPlace n) = copies n
with_copies copies image (HeaderPlace s) = image (HeaderPlace s)
with_copies copies image (PreparePlace s) = image (PreparePlace s)
with_copies copies image (ReplyPlace k) = image (ReplyPlace k)
with_copies copies image (BlockPlace a) = image (BlockPlace a)

-- images that show the same at each place of each kind are one
pub same_images : (image other : Units)
    → ((n : ℕ) → image (CopyPlace n) ≡ other (CopyPlace n)) → ((s : ℕ) → image (HeaderPlace s) ≡ other (HeaderPlace s))
    → ((s : ℕ) → image (PreparePlace s) ≡ other (PreparePlace s))
    → ((k : ℕ) → image (ReplyPlace k) ≡ other (ReplyPlace k)) → ((a : ℕ) → image (BlockPlace a) ≡ other (BlockPlace a)) → image ≡ other
same_images image other copies headers prepares replies blocks i place = go place i
  where
    go : (p : Place) → image p ≡ other p
    go (CopyPlace n) = copies n
    go (HeaderPlace s) = headers s
    go (PreparePlace s) = prepares s
    go (ReplyPlace k) = replies k
    go (BlockPlace a) = blocks a

-- an image is one with its own copies
own_copies : (image : Units) → image ≡ with_copies (λ n. image (CopyPlace n)) image
own_copies image = same_images image (with_copies (λ n. image (CopyPlace n)) image) (λ n. refl) (λ s. refl) (λ s. refl) (λ k. refl) (λ a. refl)

-- each copy shows this content
abbrev pub masked : Content → Units → Units
masked c image = with_copies (λ n. Some (CopyUnit c)) image

masked_only : (c : Content) (image : Units) (n : ℕ) (d : Content) → masked c image (CopyPlace n) ≡ Some (CopyUnit d) → d ≡ c
masked_only c image n d is = let both : Some (CopyUnit c) ≡ Some (CopyUnit d) = is in let one : c ≡ d = cc in sym one

pub masked_chosen : (c : Content) (image : Units) → IsChosen (masked c image) c
masked_chosen c image = chosen_above (masked c image) c (record { first = 0; second = 1; apart = omega arith; inside = omega arith; at_first = refl; at_second = refl }) (λ d a. inl (masked_only c image a.first d a.at_first))

more_recopied : (sh : Shape) (e : Content) (old new : ℕ → Option AnyUnit) (image : Units) (b : Checkpoint) (tail ps : List Message)
    → AreMore sh (Takes (slots sh) (with_copies new image) e) b tail ps → AreMore sh (Takes (slots sh) (with_copies old image) e) b tail ps
more_recopied sh e old new image b tail ps more = record {
  behind = record { room = more.behind.room; shown = λ p at. let t = more.behind.shown p at in record { shown = t.shown; take = t.take }; chain = more.behind.chain; grouped = more.behind.grouped };
  some = more.some;
  ends = more.ends;
}

-- other copies show the same view, where they choose its content
found_recopied : (sh : Shape) (old new : ℕ → Option AnyUnit) (image : Units) (v : View) → IsChosen (with_copies new image) v.checkpoint.content
    → IsFound sh (with_copies old image) v → IsFound sh (with_copies new image) v
found_recopied sh old new image v chosen f = record {
  chosen = chosen;
  checkpoint = f.checkpoint;
  chain_shown = f.chain_shown;
  not_behind = record { header = f.not_behind.header; prepare = f.not_behind.prepare; reply = f.not_behind.reply };
  tail = record {
    chain = f.tail.chain;
    takes = λ p at. let t = f.tail.takes p at in record { shown = t.shown; take = t.take };
    room = f.tail.room;
    grouped = f.tail.grouped;
    groups = f.tail.groups;
    pin_ends = f.tail.pin_ends;
    reaches = f.tail.reaches;
    pinned = f.tail.pinned;
    longest = λ ps more. f.tail.longest ps (more_recopied sh v.checkpoint.content old new image v.checkpoint v.tail ps more);
  };
  not_lost = record { header = f.not_lost.header; prepare = f.not_lost.prepare; superblock = f.not_lost.superblock; reply = f.not_lost.reply };
  replies = record { superblock = f.replies.superblock; mark = f.replies.mark; reply = f.replies.reply; reached = f.replies.reached };
  stored = record { shown = f.stored.shown; no_more = f.stored.no_more };
}

pub found_masked : (sh : Shape) (image : Units) (v : View) → IsFound sh image v → IsFound sh (masked v.checkpoint.content image) v
found_masked sh image v f =
    found_recopied sh (λ n. image (CopyPlace n)) (λ n. Some (CopyUnit v.checkpoint.content)) image v (masked_chosen v.checkpoint.content image)
    (subst (λ (j : Units). IsFound sh j v) (own_copies image) f)

found_unmasked : (sh : Shape) (c : Content) (image : Units) (v : View)
    → IsChosen image v.checkpoint.content → IsFound sh (masked c image) v → IsFound sh image v
found_unmasked sh c image v chosen f = subst (λ (j : Units). IsFound sh j v) (sym (own_copies image))
    (found_recopied sh (λ n. Some (CopyUnit c)) (λ n.
    image (CopyPlace n)) image v (subst (λ (j : Units). IsChosen j v.checkpoint.content) (own_copies image) chosen) f)

-- an image holds its view, whatever its copies show, once they are made equal
pub masked_holds : (sh : Shape) (image : Units) (v : View)
    → AreOfPlaces sh image → IsFound sh image v → Holds sh (masked v.checkpoint.content image) v
masked_holds sh image v places f = found_holds sh (masked v.checkpoint.content image) v of (found_masked sh image v f) clean
  where
    of_copy : (n : ℕ) (x : AnyUnit) → masked v.checkpoint.content image (CopyPlace n) ≡ Some x → IsOfPlace sh (CopyPlace n) x
    of_copy n x is = let old = places (CopyPlace f.chosen.agreed.first) (CopyUnit v.checkpoint.content) f.chosen.agreed.at_first in
        let one : v.checkpoint.content ≡ old.0 = (let e = old.1 in cc) in
        let here : CopyUnit v.checkpoint.content ≡ x = (let both : Some (CopyUnit v.checkpoint.content) ≡ Some x = is in cc) in
        (v.checkpoint.content, sym here, omega (arith, old.2, ap (λ (c : Content). c.checksum) one))

    of : (place : Place) (x : AnyUnit) → masked v.checkpoint.content image place ≡ Some x → IsOfPlace sh place x
    of (CopyPlace n) x is = of_copy n x is
    of (HeaderPlace s) x is = places (HeaderPlace s) x is
    of (PreparePlace s) x is = places (PreparePlace s) x is
    of (ReplyPlace k) x is = places (ReplyPlace k) x is
    of (BlockPlace a) x is = places (BlockPlace a) x is

    clean : IsClean (masked v.checkpoint.content image) v
    clean n c is = λ differs. inl (masked_only v.checkpoint.content image n c is)

-- and it is found where its own copies choose it
pub unmasked_found : (sh : Shape) (image : Units) (v : View)
    → Holds sh (masked v.checkpoint.content image) v → IsChosen image v.checkpoint.content → IsFound sh image v
unmasked_found sh image v holds chosen =
    found_unmasked sh v.checkpoint.content image v chosen (holds_found sh (masked v.checkpoint.content image) v holds)

-- and held, where they are clean
pub unmasked_holds : (sh : Shape) (image : Units) (v : View)
    → Holds sh (masked v.checkpoint.content image) v → IsChosen image v.checkpoint.content
    → ((n : ℕ) (x : AnyUnit) → image (CopyPlace n) ≡ Some x → Agrees sh v (CopyPlace n) x) → Holds sh image v
unmasked_holds sh image v holds chosen clean = record {
  bears = bears_open sh v (masked v.checkpoint.content image) image holds.bears each;
  chosen = chosen;
  short = short_same sh (masked v.checkpoint.content image) image v (λ s. refl) holds.short;
}
  where
    each : (place : Place) → (image place ≡ masked v.checkpoint.content image place) ⊎ IsOpen sh v image place
    each (CopyPlace n) = inr (record { needless = λ x need. need; agrees = clean n })
    each (HeaderPlace s) = inl refl
    each (PreparePlace s) = inl refl
    each (ReplyPlace k) = inl refl
    each (BlockPlace a) = inl refl
