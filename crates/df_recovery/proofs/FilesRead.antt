-- What was read of a file is so in the theory's words.
use Rattle.std.{proofs.{Common.{◌≡◌, inl, inr, ℕ, zero, suc, ◌<◌, ◌≤◌, Bool, true, false, List, [], ◌∷◌, length, get_or, Option, Some, None, refl, sym, ◌∙◌, ap, subst, arith}, lemmas.Bool.{cases_Bool, cases_lt}, lemmas.List.Quantifiers.{position-Some}, lemmas.List.Sums.{fails_before_first}}, specs.{Prelude.{nat_lt}, List.{position, position_or_len}}}
use borrow.Author.Tests.{ltb-false}
use Rattle.{df_disk.specs.Told.{Told}, df_layout.specs.declared.layout.Layout.{Layout}, df_sessions.specs.Requests.{sessions_of}}
use Rattle.df_format.specs.{Copies.{Content, content_at, content_with}, SuperRules.{IsSuper}}
use Rattle.df_recovery.{proofs.{Asked.{passes_as, super_as}, Written.{super_is_written_as}}, specs.{Checkpoints.{Base, base_of}, Finding.{FileIsRead, IsOfFile, Read, lowest_of, or_first}}}
use Rattle.df_quorum.{specs.Quorum.{AreMembers, IsChosenContent}, proofs.Laws.{one_law}}
use Rattle.df_theory.specs.Units
use Rattle.df_theory.specs.{Opens.{IsLowest, IsReadable}, Trailer.{IsReference}, View.{PassesTests}}
use Rattle.df_units.{specs.{Bytes.{copy_unit, unit_at}, Meaning.{content_of, layout_of}, Superblocks.{AreFieldsOf}}, proofs.Laws.{choice_chosen, one_content, shown_checks, copy_parts}}
use Rattle.df_journal.{specs.Shows.{TellsRings}, proofs.Laws.{rings_shown as slots_shown}}
use Rattle.df_replies.{specs.Shown.{ShowsReplies}, proofs.Laws.{scanned_shown as replies_shown}}
use Rattle.df_rooms.specs.{State.{shape}, declared.file.DataFile.{DataFile}}

-- ---- the lowest member

no_position : (members : List Bool) (k : ℕ) → position (λ member. member) members ≡ None → k < length members → get_or members k false ≡ false
no_position members k none within = elim (cases_Bool (nat_lt (position_or_len (λ member. member) members) (length members))) [
  | inl inside ↦
      (let some : position (λ (member : Bool). member) members ≡ Some (position_or_len (λ member. member) members) = (rw inside refl) in cc)
  | inr outside ↦ fails_before_first (λ (member : Bool).
      member) members k false (omega (arith, within, ltb-false (position_or_len (λ member. member) members) (length members) outside))
]

position_of : (members : List Bool) (k : ℕ) (o : Option ℕ) → get_or members k false ≡ true
    → k < length members → position (λ member. member) members ≡ o → (n : ℕ) × (n ≤ k) × (position (λ member. member) members ≡ Some n)
position_of members k None is inside at =
    absurd (let no : get_or members k false ≡ false = no_position members k at inside in let both : true ≡ false = sym is ∙ no in cc)
position_of members k (Some n) is inside at = elim (cases_lt k n) [
  | inl less ↦ absurd (let no : get_or members k false ≡ false = (position-Some (λ (member : Bool).
      member) members n false at).2 k less in let both : true ≡ false = sym is ∙ no in cc)
  | inr from ↦ (n, omega arith, at)
]

member_inside : (members : List Bool) (k : ℕ) → get_or members k false ≡ true → k < length members
member_inside [] k is = absurd (cc)
member_inside (member ∷ members) zero is = omega arith
member_inside (member ∷ members) (suc k) is = omega (arith, member_inside members k is)

position_upto : (members : List Bool) (k : ℕ)
    → get_or members k false ≡ true → (n : ℕ) × (n ≤ k) × (position (λ member. member) members ≡ Some n)
position_upto members k is = position_of members k (position (λ member. member) members) is (member_inside members k is) refl

-- ---- the checkpoint

module _ (t : Told) (file : DataFile) (read : Read) (base : Base) (is : IsOfFile t file read base) where
  fields_are : AreFieldsOf file.layout file.cluster read.found.content
  fields_are = record {
    slots = sym is.has.layout.slots;
    message_size = sym is.has.layout.message_size;
    clients = sym is.has.layout.clients;
    block_size = sym is.has.layout.block_size;
    blocks = sym is.has.layout.blocks;
    cluster_is = is.has.cluster;
  }

  usable : IsSuper read.found.content
  usable = (super_as file.version read.found.content is.has.super.usable).1

  chosen : IsChosenContent (content_at t.shown) (content_with read.found.content)
  chosen = super_is_written_as file.version t.shown read.found.content is.image is.has.super

  lowest : IsLowest
      (unit_at file.layout file.cluster t.shown) (content_of (content_with read.found.content)) (lowest_of read.found.chosen.members)
  lowest = let c = content_with read.found.content in
      let same : is.choice.content ≡ c = one_law (content_at t.shown) is.choice.content c is.choice.is chosen in
      let members : AreMembers (content_at t.shown) c read.found.chosen.members = rw same at is.choice.members in
      let first = chosen.agreed.first in let small : first < 4 = omega (arith, chosen.agreed.apart, chosen.agreed.inside) in
      let low = position_upto read.found.chosen.members first ((members first small).1 chosen.agreed.at_first) in
      let tests = position-Some (λ (member : Bool). member) read.found.chosen.members low.0 false low.2 in
      let number : lowest_of read.found.chosen.members ≡ low.0 = ap or_first low.2 in
      let checks = shown_checks t.shown first c is.image chosen.agreed.at_first in
      subst (IsLowest (unit_at file.layout file.cluster t.shown) (content_of c)) (sym number) (record {
        shows = ap copy_unit ((members low.0 (omega (arith, low.1, small))).0 tests.1);
        lowest = λ k less at. let there = copy_parts (content_at t.shown k) (content_of c) at in
            let one : there.0 ≡ c = one_content there.0 c (shown_checks t.shown k there.0 is.image there.1) checks there.2 in
            let member : get_or read.found.chosen.members k false ≡ true =
            (members k (omega (arith, less, low.1, small))).1 (there.1 ∙ ap Some one) in
            let not : get_or read.found.chosen.members k false ≡ false = tests.2 k less in
            absurd (let both : true ≡ false = sym member ∙ not in cc);
      })

  passes : PassesTests (shape file) (content_of (content_with read.found.content))
      × IsReference (layout_of file.layout) (content_of (content_with read.found.content))
  passes = passes_as file read.found.content fields_are (super_as file.version read.found.content is.has.super.usable).0 usable

  readable : IsReadable
      (shape file) (unit_at file.layout file.cluster t.shown) (base_of read.found.content is.checkpoint.chain is.checkpoint.parts)
  readable = record {
    chosen = choice_chosen file.layout file.cluster t.shown (content_with read.found.content) is.image chosen;
    sound = record { tests = passes.0; trailer = is.checkpoint.trailer; tracks = is.checkpoint.tracks };
    shown = is.checkpoint.shown;
  }

pub file_is_read : FileIsRead
file_is_read t file read base is = record {
  tells = rw same at (slots_shown read.layout t read.slots is.scanned.slots);
  shows = rw same at (replies_shown read.layout read.slots.start.cluster t read.replies is.scanned.replies);
  slots_are = ap (λ (l : Layout). l.slots) (sym is.layout);
  clients_are = ap (λ (l : Layout). l.clients) (sym is.layout);
  content_is = refl;
  readable = readable t file read base is;
  lowest_is = lowest t file read base is;
  sessions_are = is.checkpoint.sessions_are ∙ ap sessions_of is.sessions;
}
  where
    same : unit_at read.layout read.slots.start.cluster t.shown ≡ unit_at file.layout file.cluster t.shown
    same = λ i. unit_at (is.layout i) (is.cluster i) t.shown
