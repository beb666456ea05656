-- An image is mended in one way, since it has one superblock, one view, and of these one table of headers and one list.
use Rattle.std.proofs.{Common.{◌≡◌, ◌<◌, ℕ, false, List, ◌++◌, get_or, Some, sym, ◌∙◌, ap, subst, arith}, lemmas.List.{ext_get_or}}
use Rattle.{df_base.{specs.Log.{Event}, proofs.Laws.{same_bit}}, df_disk.specs.Told.{Told}, df_layout.proofs.Laws.{same_layout}}
use Rattle.{df_format.specs.{Copies.{Content, content_at}, declared.superblock.SuperFields.{SuperFields}}, df_quorum.proofs.Laws.{one_law}}
use Rattle.{df_theory.{specs.{Found.{IsFound}, View.{View}}, proofs.Laws.{one_found_law}}, df_units.specs.Bytes.{unit_at}}
use Rattle.{df_model.specs.{Memory.{Memory, memory_of}, Work.{opened}}, df_superblock.specs.Events.{update_events}}
use Rattle.df_damage.{specs.Below.{DataFile, State, memory, shape, spelling}, proofs.Laws.{same_file}}
use Rattle.df_opening.specs.{Mending.{mending_events, raising_events}, Opened.{AreRaisingTo, OneMending}, Surveying.{headers_of, mends_of}}

module _ (version : ℕ) (d e : SuperFields)
    (t : Told) (s u : State) (es ds : List Event) (one : AreRaisingTo version d t s es) (other : AreRaisingTo version e t u ds) where
  fields : s.fields ≡ u.fields
  fields = let first = one.opened.has.super in let second = other.opened.has.super in sym first.fields ∙
      ap (λ (c : Content). c.fields) (one_law (content_at t.shown) first.content second.content first.chosen second.chosen) ∙ second.fields

  layout : s.file.layout ≡ u.file.layout
  layout = let first = one.opened.has.layout in let second = other.opened.has.layout in same_layout s.file.layout u.file.layout
      (first.slots ∙ ap (λ (f : SuperFields). f.slots) fields ∙ sym second.slots)
      (first.message_size ∙ ap (λ (f : SuperFields). f.message_size) fields ∙ sym second.message_size)
      (first.clients ∙ ap (λ (f : SuperFields). f.clients) fields ∙ sym second.clients)
      (first.block_size ∙ ap (λ (f : SuperFields). f.block_size) fields ∙ sym second.block_size)
      (first.blocks ∙ ap (λ (f : SuperFields). f.blocks) fields ∙ sym second.blocks)

  file : s.file ≡ u.file
  file = same_file s.file u.file layout (sym one.opened.has.cluster
      ∙ ap (λ (f : SuperFields). f.cluster) fields ∙ other.opened.has.cluster) (one.opened.of.version_is ∙ sym other.opened.of.version_is)

  view : one.opened.view ≡ other.opened.view
  view = one_found_law (shape s.file) (unit_at s.file.layout s.file.cluster t.shown) one.opened.view other.opened.view one.opened.found
      (subst (λ (f : DataFile). IsFound (shape f) (unit_at f.layout f.cluster t.shown) other.opened.view) (sym file) other.opened.found)

  first : DataFile → View → Memory
  first f v = memory_of (shape f) (spelling f) (opened (shape f) (unit_at f.layout f.cluster t.shown) v)

  known : memory s ≡ memory u
  unfolding first
  known = one.opened.stands
      ∙ ap (λ (v : View). first s.file v) view ∙ ap (λ (f : DataFile). first f other.opened.view) file ∙ sym other.opened.stands

  head : s.head ≡ u.head
  head = ap (λ (m : Memory). m.head) known

  members : one.chosen.members ≡ other.chosen.members
  members = let first = one.planned.choice in let second = other.planned.choice in
      let same : first.content ≡ second.content = one_law (content_at t.shown) first.content second.content first.is second.is in
      ext_get_or false one.chosen.members other.chosen.members (one.planned.four ∙ sym other.planned.four)
      (λ n inside. let below : n < 4 = omega (arith, inside, one.planned.four) in
      same_bit (get_or one.chosen.members n false) (get_or other.chosen.members n false)
      (λ is. (second.members n below).1 ((first.members n below).0 is ∙ ap Some same))
      (λ is. (first.members n below).1 ((second.members n below).0 is ∙ ap Some (sym same))))

  table : s.headers ≡ u.headers
  table = one.planned.table ∙ (λ i. headers_of (layout i) t.shown (fields i) (head i)) ∙ sym other.planned.table

  mends : one.mends ≡ other.mends
  mends = one.planned.mends ∙ (λ i. mends_of (layout i) t.shown (fields i) (head i) (members i)) ∙ sym other.planned.mends

  pub same_calls : (mending : List Event) × (es ≡ mending ++ update_events d) × (ds ≡ mending ++ update_events e)
  same_calls = (
    mending_events u.file.layout u.headers other.mends u.fields other.chosen.members,
    one.are ∙ (λ i. raising_events (layout i) (table i) (mends i) (fields i) (members i) d),
    other.are,
  )

pub one_mending : OneMending
one_mending version d e t s u es ds one other = same_calls version d e t s u es ds one other
