-- The first view is sound, and an image of a file that was just made holds it.
use Rattle.std.{proofs.Common.{◌≡◌, inl, ℕ, ◌+◌, ◌-◌, List, take, [], length, Some, None, refl, sym, ◌∙◌, ap, subst, arith}, specs.List.{slice_get}}
use Rattle.df_theory.{specs.{Units.{AnyUnit, Block, BlockPlace, CopyPlace, CopyUnit, HeaderPlace, Message, Parts, Place, PreparePlace, PrepareUnit, ReplyPlace, Session, Units}, Sessions.{sessions_after}, Tails.{AreGroups, Chain, In, last_checksum, last_mark}, Shape.{Shape}, Trailer.{InChain, IsTrailer, no_parts}, View.{View, sessions}, Shows.{Needs}, Holds.{Holds, Sound}, First.{IsFirst, ShowsMade}}, proofs.{Choices.{chosen_above}, CopyVotes.{agree_at}, Steps.{made_agrees}, Images.{short_clear}}}

module _ (sh : Shape) (v : View) (first : IsFirst sh v) where
  no_session : (k : ℕ) (s : Session) → slice_get (sessions v) k ≡ Some s → ⊥
  no_session k s at =
      let none : slice_get (sessions v) k ≡ None = λ i. slice_get (sessions_after (first.parts i).sessions (first.tail i)) k in
      let both : None ≡ Some s = sym none ∙ at in cc

  no_base : (k : ℕ) (s : Session) → slice_get v.checkpoint.parts.sessions k ≡ Some s → ⊥
  no_base k s at = let both : None ≡ Some s = ap (λ (p : Parts). slice_get p.sessions k) (sym first.parts) ∙ at in cc

  first_trailer : IsTrailer sh v.checkpoint.content v.checkpoint.chain v.checkpoint.parts
  first_trailer = let t = first.content.trailer in let nothing : IsTrailer sh v.checkpoint.content [] no_parts = record {
    reference = record {
      address = omega (arith, t);
      some = λ above. absurd (omega (arith, first.content.numbers));
      none = λ none. (t.1, t.2);
      size = λ above. absurd (omega (arith, t));
    };
    links = t.0;
    count = record { holds = omega (arith, t); needed = λ some. absurd (omega arith) };
    inside = λ a b none. absurd none;
    size = sym t.2;
    says = refl;
    spare = λ a b none. refl;
  } in subst (λ (p : Parts). IsTrailer sh v.checkpoint.content v.checkpoint.chain p) (sym first.parts) (rw (sym first.chain) at nothing)

  pub first_sound : Sound sh v
  first_sound = record {
    chain = rw first.tail tt;
    room = omega (arith, ap length first.tail);
    grouped = rw first.tail tt;
    groups = λ p at. absurd (rw first.tail at at);
    pin_ends = λ p at low. absurd (rw first.tail at at);
    checkpoint = record {
      tests = first.content.tests;
      trailer = first_trailer;
      tracks = record {
        below = λ k s at. absurd (no_base k s at);
        apart = λ j k s t one two same. absurd (no_base j s one);
        pending = λ o above to. absurd (omega (arith, first.content.numbers));
      };
    };
    head_from = omega (arith, first.content.numbers);
    head_to = omega (arith, first.content.numbers, ap length first.tail);
    pipeline = (omega (arith, first.replies), omega (arith, first.content.numbers, ap length first.tail));
    replies_from = (omega (arith, first.content.numbers), omega (arith, ap (λ (l : List Message). last_mark 0 l) first.tail));
    answered = λ k r is. absurd (let both : None ≡ Some r = sym (first.stored k) ∙ is in cc);
    stores = λ k s at low. absurd (no_session k s at);
    records = record {
      pin_to = omega (arith, first.content.pin.1);
      checksum = let none : v.checkpoint.content.pin - v.checkpoint.content.op ≡ 0 = omega (arith, first.content.pin.1) in
          ap (λ (k : ℕ). last_checksum v.checkpoint.content.op_checksum (take k v.tail)) none
          ∙ first.content.numbers.1 ∙ sym first.content.pin.2;
      tail = λ p at. absurd (rw first.tail at at);
      stored = λ k r is. absurd (let both : None ≡ Some r = sym (first.stored k) ∙ is in cc);
    };
  }

  first_needs : (place : Place) (x : AnyUnit) → Needs sh v place x → ⊥
  first_needs (CopyPlace n) x need = need
  first_needs (HeaderPlace s) x need = need
  first_needs (PreparePlace s) x need = let none : In need.0 [] = rw first.tail at need.1 in none
  first_needs (ReplyPlace k) x need = let both : None ≡ Some need.0 = sym (first.stored k) ∙ need.1 in cc
  first_needs (BlockPlace a) x need = let none : InChain a need.0 [] = rw first.chain at need.1 in none

  pub first_holds : (image : Units) → ShowsMade v.checkpoint.content image → image (CopyPlace 0) ≡ Some (CopyUnit v.checkpoint.content)
      → image (CopyPlace 1) ≡ Some (CopyUnit v.checkpoint.content) → Holds sh image v
  first_holds image made zero_is one_is = record {
    bears = record { sound = first_sound; agrees = λ place x is. made_agrees sh v place x (made place x is); needs = λ place x need. absurd (first_needs place x need) };
    chosen = chosen_above image v.checkpoint.content (agree_at image v.checkpoint.content 0 1 (omega arith) (omega arith) zero_is one_is)
        (λ d a. inl (let is = made (CopyPlace a.first) (CopyUnit d) a.at_first in cc));
    short = short_clear sh image v (λ s p is own. absurd (made (PreparePlace s) (PrepareUnit p) is));
  }
