-- Damage makes no superblock of another file: a content that is chosen among the copies can be used, and is of this file.
use Rattle.{std.proofs.Common.{◌≡◌, ℕ, ◌^◌, Some, None, sym, ◌∙◌, ap, subst, arith}, df_disk.specs.Told.{Told}}
use Rattle.df_layout.{specs.declared.layout.Layout.{Layout}, proofs.Laws.{same_layout}}
use Rattle.df_format.specs.{Copies.{Content, content_at}, SuperRules.{IsSuper}, declared.superblock.SuperFault.{SuperFault}, declared.superblock.SuperFields.{SuperFields}}
use Rattle.df_recovery.{proofs.Laws.{as_none, same_file}, specs.{Below.{parse_of, DataFile, State, shape}, Opening.{fault_as, HasFaultAs, HasSuperAs, IsLayoutOf}, Surveys.{HasFile, IsAsked, IsOpenedAs}}}
use Rattle.df_quorum.specs.Quorum
use Rattle.df_theory.{specs.{Found.{IsFound}, Opens.{BadField, BootSpent, Opens, Refusal, Refused}, Trailer.{IsReference}, UnitLog.{settled}, View.{PassesTests, View, boot_of}}, proofs.Laws.{fields_hold_law, no_bad_field_law}}
use Rattle.df_units.{specs.{Bytes.{unit_at}, Meaning.{content_of, layout_of}, Superblocks.{AreFieldsOf}}, proofs.Laws.{choice_chosen, passing_is_usable, shown_checks}}
use Rattle.df_damage.{specs.Disks.{MayBeHurtAs}, proofs.{Barriers.{distinct, empty, log, rests, shown, shows_settled, was}, Later.{was_later}, Spent.{spent_found}, Versions.{known_file}}}

module _ {version : ℕ} (file : DataFile) (view : View) (t : Told) (may : MayBeHurtAs version file view t) where
  -- ---- what is chosen

  pub tests : (c : Content) → Quorum.IsChosenContent (content_at t.shown) c
      → PassesTests (shape file) (content_of c) × IsReference (layout_of file.layout) (content_of c)
  tests c chosen = let choice = choice_chosen file.layout file.cluster t.shown c may.whole chosen in
      let w = fields_hold_law (shape file) (settled (log file view t may)) view (rests file view t may).grows (empty file view t may)
      (distinct file view t may) (shown file view t may) (shows_settled file view t may) (content_of c) choice.agreed in
      (subst (PassesTests (shape file)) w.2 w.3.tests, subst (IsReference (layout_of file.layout)) w.2 w.3.trailer.reference)

  pub rules : (c : Content) → Quorum.IsChosenContent (content_at t.shown) c → AreFieldsOf file.layout file.cluster c.fields × IsSuper c.fields
  rules c chosen = let both = tests c chosen in
      passing_is_usable file.version file.layout file.cluster file.named (parse_of (layout_of file.layout)) c (known_file
      version file may.known may.version_is) (shown_checks t.shown chosen.agreed.first c may.whole chosen.agreed.at_first) both.0 both.1

  -- no test of it fails
  pub no_fault : (fault : SuperFault) → HasFaultAs version t.shown fault → ⊥
  no_fault fault has = let none : fault_as version has.content.fields ≡ None =
      as_none version has.content.fields ((tests has.content has.chosen).0.version ∙ may.version_is) (rules has.content has.chosen).1 in
      let some : fault_as version has.content.fields ≡ Some fault = has.broken in cc

  -- its layout is the file's
  pub own_layout : (layout : Layout) (f : SuperFields) → HasSuperAs version t.shown f → IsLayoutOf layout f → layout ≡ file.layout
  own_layout layout f super is = let of = (rules super.content super.chosen).0 in same_layout layout file.layout
      (is.slots ∙ ap (λ (g : SuperFields). g.slots) (sym super.fields) ∙ of.slots)
      (is.message_size ∙ ap (λ (g : SuperFields). g.message_size) (sym super.fields) ∙ of.message_size)
      (is.clients ∙ ap (λ (g : SuperFields). g.clients) (sym super.fields) ∙ of.clients)
      (is.block_size ∙ ap (λ (g : SuperFields). g.block_size) (sym super.fields) ∙ of.block_size)
      (is.blocks ∙ ap (λ (g : SuperFields). g.blocks) (sym super.fields) ∙ of.blocks)

  -- a file that is read of it is this one
  pub this_file : (other : DataFile) (f : SuperFields) → HasFile t.shown other f → IsAsked version file.layout other → other ≡ file
  this_file other f has of = same_file other file of.layout_is (sym has.cluster ∙ ap (λ (g : SuperFields). g.cluster) (sym has.super.fields)
      ∙ (rules has.super.content has.super.chosen).0.cluster_is) (of.version_is ∙ sym may.version_is)

  pub opened_file : (s : State) → IsOpenedAs version file.layout t.shown s → s.file ≡ file
  opened_file s is = this_file s.file s.fields is.has is.of

  pub opened_found : (s : State)
      → (is : IsOpenedAs version file.layout t.shown s) → IsFound (shape file) (unit_at file.layout file.cluster t.shown) is.view
  opened_found s is = subst (λ (x : DataFile). IsFound (shape x) (unit_at file.layout x.cluster t.shown) is.view) (opened_file s is) is.found

  -- what refuses is a step of an open of this file
  pub refused_here : (other : DataFile) (f : SuperFields) (r : Refusal) → HasFile t.shown other f → IsAsked version file.layout other → Opens (shape other) (unit_at file.layout other.cluster t.shown) (Refused r) → Opens (shape file) (unit_at file.layout file.cluster t.shown) (Refused r)
  refused_here other f r has of opens =
      subst (λ (x : DataFile). Opens (shape x) (unit_at file.layout x.cluster t.shown) (Refused r)) (this_file other f has of) opens

  -- and no test of a trailer fails
  pub no_bad_field : Opens (shape file) (unit_at file.layout file.cluster t.shown) (Refused BadField) → ⊥
  no_bad_field opens = no_bad_field_law (shape file) (settled (log file view t may)) view (rests file view t may).grows
      (empty file view t may) (distinct file view t may) (shown file view t may) (shows_settled file view t may) opens

  -- a boot that is spent is the file's: no earlier one was as great
  pub spent_here : Opens (shape file) (unit_at file.layout file.cluster t.shown) (Refused BootSpent) → boot_of view ≡ 2 ^ 62
  spent_here opens = let found = spent_found (shape file) (unit_at file.layout file.cluster t.shown) opens in let later = was_later
      (shape file) (settled (log file view t may)) view (rests file view t may).grows found.0 (was file view t may found.0 found.1) in
      omega (arith, found.2, later.boots, (rests file view t may).holds.bears.sound.checkpoint.tests.boot)
