-- A reply.
use Rattle.std.proofs.{Common.{◌≡◌, ◌⊎◌, inl, inr, ℕ, ◌==◌, if◌then◌else◌, Option, Some, refl, sym, ◌∙◌, ap, arith}, lemmas.Bool.{cases_eq}, lemmas.Bool.Decides.{nat_tests}}
use Rattle.df_theory.{specs.{Units.{AnyUnit, BlockPlace, CopyPlace, HeaderPlace, Message, Place, PreparePlace, ReplyPlace, ReplyUnit, Session}, Shape.{Shape}, View.{View}, Shows.{Needs}, Holds.{Sound}, Next.{IsReply, Reply, replied}}, proofs.{Grew.{next_grew}, Puts.{IsOneStep}}}

pub stored_at : (k place : ℕ) (r : Message) (old : Option Message) → k ≡ place → (if k == place then Some r else old) ≡ Some r
stored_at k place r old same = grind (arith, nat_tests)

pub stored_else : (k place : ℕ) (r : Message) (old : Option Message) → (k ≡ place → ⊥) → (if k == place then Some r else old) ≡ old
stored_else k place r old apart = grind (arith, nat_tests)

-- the client's slot holds nothing that is stored
pub reply_slot : (sh : Shape) (v : View) (place : ℕ) (r : Message)
    → Sound sh v → IsReply v place r → (y : AnyUnit) → Needs sh v (ReplyPlace place) y → ⊥
reply_slot sh v place r sound is y need = let old = sound.answered place need.0 need.1 in
    let same : old.0 ≡ is.session.0 = (let both : Some old.0 ≡ Some is.session.0 = sym old.1 ∙ is.session.1 in cc) in
    omega (arith, old.2, ap (λ (s : Session). s.op) same, is.session.2.op, is.op)

reply_needs : (sh : Shape) (v : View) (place : ℕ) (r : Message) (other : Place) (y : AnyUnit)
    → Needs sh (replied v place r) other y → Needs sh v other y ⊎ ((other ≡ ReplyPlace place) × (y ≡ ReplyUnit r))
reply_needs sh v place r (CopyPlace n) y need = inl need
reply_needs sh v place r (HeaderPlace s) y need = inl need
reply_needs sh v place r (PreparePlace s) y need = inl need
reply_needs sh v place r (ReplyPlace k) y need = elim (cases_eq k place) [
  | inl here ↦ let same : Some r ≡ Some need.0 = sym (stored_at k place r (v.stored k) here) ∙ need.1 in let one : r ≡ need.0 = cc in
      inr (ap ReplyPlace here, need.2 ∙ ap ReplyUnit (sym one))
  | inr apart ↦ inl (need.0, sym (stored_else k place r (v.stored k) apart) ∙ need.1, need.2)
]
reply_needs sh v place r (BlockPlace a) y need = inl need

pub reply_step : (sh : Shape) (v : View) (place : ℕ) (r : Message)
    → Sound sh v → Sound sh (replied v place r) → IsReply v place r → IsOneStep sh v (replied v place r) (ReplyPlace place) (ReplyUnit r)
reply_step sh v place r sound later is = record {
  next = Reply place r is;
  grew = next_grew sh v (replied v place r) sound (Reply place r is);
  sound = later;
  checkpoint = refl;
  tail = refl;
  head_is = refl;
  short = λ j short. short;
  no_copy = λ copy. copy;
  no_prepare = λ prepare. prepare;
  no_block = λ block. block;
  needless = reply_slot sh v place r sound is;
  agrees = (
    r,
    refl,
    record {
      op = λ same. omega (arith, is.op);
      mark = λ same. omega (arith, is.mark);
      checkpoint = omega (arith, is.checkpoint);
      boot = omega (arith, is.boot);
      alone = is.alone;
    },
  );
  history = (r, refl, stored_at place place r (v.stored place) refl);
  needs = reply_needs sh v place r;
}
