-- An append on a disk is one of the theory.
use Rattle.std.{proofs.{Common.{◌≡◌, inl, inr, ℕ, ◌/◌, ◌%◌, ◌==◌, List, [], Some, None, refl, sym, ◌∙◌, ap, subst}, lemmas.Bool.{cond-true, eq-eqb}, lemmas.Option.{same_Some}}, specs.Prelude.{slice_get, ◌++◌}}
use Rattle.{df_base.specs.Image.{Image}, df_layout.specs.declared.{layout.Layout.{Layout}, places.Zone.TheVariants.{WalPrepares}}}
use Rattle.df_base.specs.Log
use Rattle.df_format.{specs.{declared.header.Header.{Header}, Message.{Message}, Own.{place_in}, Brings.{Brings}, Valid.{IsInSlot}}, proofs.Laws.{read_belongs}}
use Rattle.df_theory.specs.Units
use Rattle.df_theory.{specs.{Units.{HeaderPlace, HeaderUnit, PreparePlace, PrepareUnit}, Shape.{Shape}, UnitLog.{PutsOne, put_one}, WriterLaws.{IsHeaderSector}, Commands.{append_command}, WholeLaws.{IsStanding}, Device.{AreSteps, units_log}, Runs.{Command}}, proofs.Laws.{put_one_law, shown_law, standing_moments_law, tidy_append_law, tidy_moments_law}}
use Rattle.df_theory.specs.UnitLog
use Rattle.df_units.{specs.{Meaning.{header_of, message_of}, Bytes.{unit_at}, Format.{format_of, shape_of}, Puts.{IsNextSector, header_unit, put_headers}, Append.{AppendOnDisk, append_events}}, proofs.{Local.{is_format}, Told.{sector_puts}, Writes.{headers_put, prepare_put}}}

-- a prepare stands in the slot of its op
own_slot : (layout : Layout) (cluster : ℕ) (u : Message) (bytes : List ℕ)
    → Brings layout cluster (place_in WalPrepares u.header.slot) u bytes → u.header.slot ≡ u.header.op % layout.slots
own_slot layout cluster u bytes brings = let here : IsInSlot layout u.header.slot u.header =
    (read_belongs layout cluster (place_in WalPrepares u.header.slot) (bytes ++ []) u (brings.read [])).belongs in sym here.op

module _ (layout : Layout) (cluster : ℕ) (sh : Shape) (u : Message) (sector : ℕ) (headers : List Header) (image : Image)
    (slot : u.header.slot ≡ u.header.op % sh.layout.slots) (is : IsNextSector layout cluster image u.header sector headers) where
  is_header_sector : (units : Units.Units) → ((place : Units.Place) → units place ≡ unit_at layout cluster image place)
      → IsHeaderSector sh units (message_of u) (put_headers sector headers)
  is_header_sector units shows = record {
    each = λ place y put. let one = sector_puts sector headers place y put in (
      one.0,
      header_of one.1,
      one.2,
      one.3,
      elim (is.others one.0 one.1 one.4 one.5) [
        | inr shown ↦ inl (shows (HeaderPlace one.0) ∙ shown)
        | inl own ↦ let same : one.1 ≡ u.header = same_Some _ _ (sym one.5 ∙ ap (λ (s : ℕ). slice_get headers (s % 16)) own ∙ is.has) in
            inr (own ∙ slot, ap header_of same)
      ],
    );
  }

  puts_new : put_headers sector headers (HeaderPlace (u.header.op % sh.layout.slots)) ≡ Some (HeaderUnit (header_of u.header))
  puts_new = subst (λ (s : ℕ). put_headers sector headers (HeaderPlace s) ≡ Some (HeaderUnit (header_of u.header))) slot
      (cond-true (u.header.slot / 16 == sector)
      (header_unit (slice_get headers (u.header.slot % 16))) None (eq-eqb (u.header.slot / 16) sector is.here) ∙ ap header_unit is.has)

pub append_on_disk : AppendOnDisk
append_on_disk layout cluster named parse log v u bytes sector headers whole tidy may brings next = let f = format_of layout cluster in
    let sh = shape_of layout cluster named parse in let slot = own_slot layout cluster u bytes brings in
    let shows : (place : Units.Place) → UnitLog.now (units_log f log) place ≡ unit_at layout cluster (Log.now log) place =
    λ place. sym (shown_law f log (Log.now log) (is_format layout cluster) (λ sector. refl) place) in
    let put : Units.Units = put_one (PreparePlace u.header.slot) (PrepareUnit (message_of u)) in
    let one : PutsOne put (PreparePlace (u.header.op % layout.slots)) (PrepareUnit (message_of u)) =
    rw (← slot) (put_one_law (PreparePlace u.header.slot) (PrepareUnit (message_of u))) in
    let leads = tidy_append_law sh (units_log f log) v (message_of u) put (put_headers sector headers) tidy may one
    (is_header_sector layout cluster sh u sector headers (Log.now log) slot next (UnitLog.now (units_log f log)) shows)
    (puts_new layout cluster sh u sector headers (Log.now log) slot next) in
    let c : Command = append_command v (message_of u) put (put_headers sector headers) in
    let es : List Log.Event = append_events layout u.header.slot bytes sector headers in let are : AreSteps f es c.steps =
    (prepare_put layout cluster u.header.slot u bytes brings, (headers_put layout cluster sector headers next.are, tt)) in
    let ends = tidy_moments_law f sh v c log es (is_format layout cluster) whole are leads.0 in
    let keeps = λ (standing : IsStanding (units_log f log) v).
    standing_moments_law f sh v c log es (is_format layout cluster) whole are (leads.1 standing) in
    record { moments = ends.0; tidy = ends.1; whole = λ standing. (keeps standing).0; standing = λ standing. (keeps standing).1 }
