-- What a superblock of either version names: how the search for named prepares and the walk after its checkpoint begin, and which of them
-- is blamed.
use Rattle.std.{proofs.{Common.{inl, inr, ◌≡◌, ℕ, ◌+◌, ◌≤◌, ◌%◌, List, sym, ◌∙◌, ap, subst, arith}, lemmas.Bool.{cases_eq}}}
use Rattle.{df_layout.specs.declared.layout.Layout.{Layout}, df_sessions.specs.declared.session.Session.{Session}}
use Rattle.df_format.specs.{Spelling.{IsCheck}, SuperRules.{IsSuper, IsUsable}, declared.superblock.SuperFields.{SuperFields}}
use Rattle.df_theory.specs.{Units.{Content, Units}, Shape.{Shape, slots}, Opens.{LacksKnown}, View.{Checkpoint}}
use Rattle.df_units.{specs.Meaning.{number_of, pin_checksum_of, pin_of}, proofs.Laws.{by_other, by_second}}
use Rattle.df_journal.specs.{Known.{NamesFrom}, Tail.{BeginsAt, StopsAt}, declared.table.Start.{Start}, Starting.{start_of}}
use Rattle.df_recovery.specs.Known.{BlamesKnown, IsBaseOf}

-- the prepares up to the pin: those of the checkpoint, or in version 2 those up to the head
pub pin_from : (f : SuperFields) → IsSuper f → f.op ≤ pin_of f
pin_from f rules = elim (cases_eq f.version 2) [
  | inl second ↦ let pin : pin_of f ≡ f.head = by_second f f.head f.op second in omega (arith, pin, rules.head.0)
  | inr other ↦ let pin : pin_of f ≡ f.op = by_other f f.head f.op other in omega (arith, pin)
]

pub pin_near : (f : SuperFields) → IsSuper f → pin_of f ≤ f.op + f.slots
pin_near f rules = elim (cases_eq f.version 2) [
  | inl second ↦ let pin : pin_of f ≡ f.head = by_second f f.head f.op second in omega (arith, pin, rules.head.1)
  | inr other ↦ let pin : pin_of f ≡ f.op = by_other f f.head f.op other in omega (arith, pin)
]

-- where it names none after the checkpoint, its last one is the checkpoint's
pub pin_checksum : (f : SuperFields) → IsSuper f → pin_of f ≡ f.op → pin_checksum_of f ≡ f.op_checksum
pin_checksum f rules level = elim rules.version [
  | inl first ↦ by_other f f.head_checksum f.op_checksum (λ second. omega (arith, second, first.version))
  | inr second ↦
      by_second f f.head_checksum f.op_checksum second.version ∙ second.head_is_op (sym (by_second f f.head f.op second.version) ∙ level)
]

-- the checksum that is named is one
pub pin_check : (f : SuperFields) → IsUsable f → IsCheck (pin_checksum_of f)
pin_check f is = elim (cases_eq f.version 2) [
  | inl second ↦ subst IsCheck (sym (by_second f f.head_checksum f.op_checksum second)) is.fits.head_checksum
  | inr other ↦ subst IsCheck (sym (by_other f f.head_checksum f.op_checksum other)) is.fits.op_checksum
]

module _ (sh : Shape) (b : Checkpoint) (layout : Layout) (f : SuperFields) (start : Start) (sessions : List Session)
    (is : IsBaseOf sh b layout f sessions) (from : start ≡ start_of f) (rules : IsSuper f) (size : f.slots ≡ layout.slots) where
  of_pin : b.content.pin ≡ pin_of f
  of_pin = ap (λ (c : Content). c.pin) is.content_is

  of_op : b.content.op ≡ f.op
  of_op = ap (λ (c : Content). c.op) is.content_is

  pin_is : b.content.pin ≡ start.head
  pin_is = of_pin ∙ sym (ap (λ (x : Start). x.head) from)

  op_is : b.content.op ≡ start.op
  op_is = of_op ∙ sym (ap (λ (x : Start). x.op) from)

  of_checksum : b.content.op_checksum ≡ number_of f.op_checksum
  of_checksum = ap (λ (c : Content). c.op_checksum) is.content_is

  pub names_from : (checksum : List ℕ) → checksum ≡ pin_checksum_of f → NamesFrom sh b.content layout start checksum
  names_from checksum same = record {
    slots_are = is.slots_are;
    op_is = op_is;
    pin_is = pin_is;
    from = omega (arith, of_op, of_pin, pin_from f rules);
    checksum_is = ap (λ (c : Content). c.pin_checksum) is.content_is ∙ ap number_of (sym same);
  }

  pub begins_at : BeginsAt sh b layout start f.op_checksum sessions
  begins_at = record {
    slots_are = is.slots_are;
    clients_are = is.clients_are;
    op_is = op_is;
    checksum_is = of_checksum;
    boot = ap (λ (c : Content). c.boot) is.content_is ∙ sym (ap (λ (x : Start). x.boot) from);
    pin = pin_is;
    pin_near = omega (arith, of_op, of_pin, pin_near f rules, size, is.slots_are);
    pin_checksum = λ level. ap (λ (c : Content). c.pin_checksum) is.content_is
        ∙ ap number_of (pin_checksum f rules (sym of_pin ∙ level ∙ of_op)) ∙ sym of_checksum;
    sessions_are = is.sessions_are;
  }

  -- the slot of an op, by the layout and by the shape
  slot_same : (op slot : ℕ) → slot ≡ op % layout.slots → slot ≡ op % slots sh
  slot_same op slot at = at ∙ ap (λ (n : ℕ). op % n) (sym is.slots_are)

  pub blames_unfit : (image : Units) (op slot : ℕ) → slot ≡ (op + 1) % layout.slots → StopsAt sh image b op → BlamesKnown sh image b slot
  blames_unfit image op slot at stops =
      inr (stops.front, slot_same (op + 1) slot at ∙ ap (λ (o : ℕ). (o + 1) % slots sh) stops.op_is, stops.unfit)

  pub blames_lacking : (image : Units) (op slot : ℕ) → slot ≡ op % layout.slots → LacksKnown sh image b.content op → BlamesKnown sh image b slot
  blames_lacking image op slot at lacks = inl (op, slot_same op slot at, lacks)

-- the greatest op that the content names is that of the fields
pub content_pin : (sh : Shape) (b : Checkpoint) (layout : Layout) (f : SuperFields) (sessions : List Session)
    → IsBaseOf sh b layout f sessions → b.content.pin ≡ pin_of f
content_pin sh b layout f sessions is = ap (λ (c : Content). c.pin) is.content_is
