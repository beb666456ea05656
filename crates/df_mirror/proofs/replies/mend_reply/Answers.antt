-- A reply that the superblock recorded is known, unless something newer of its boot is shown.
use Rattle.std.proofs.{Common.{◌<◌, ◌∙◌, Err, Ok, ap, arith, refl, subst, sym}, lemmas.Slice.Eq.{bytes_eq-Decides}}
use Rattle.{df_format.specs.{Spelling.{no_checksum}, declared.superblock.SuperFields.{SuperFields}}, df_places.specs.Units.{IsSeen}}
use Rattle.{df_layout.specs.declared.layout.Layout.{Layout}, df_theory.specs.Units.{ReplyPlace}, df_units.specs.Meaning.{place_of}}
use Rattle.df_mirror.specs.{declared.ending.Ending.TheVariants.{First}, Walks.{superblock_units}}
use Rattle.df_mirror.proofs.AtHead.{check_there, no_session, not_behind, not_named, reply_none, reply_recorded, sum_there}
use Rattle.df_mirror.proofs.Recorded.{IsNewer, recorded_mended, recorded_newer, recorded_unread}
use Rattle.df_mirror.proofs.replies.mend_reply.Goals.{in-Ok-seen+else-header-fields, else-header-fields-via-then-header-fields+else-fields-header, else-header-fields-via-else-header-fields, in_default-seen}
use Rattle.df_mirror.proofs.replies.mend_reply.Goals as goal

pub bounds-fields-place : goal.bounds-fields-place
bounds-fields-place g c = omega (arith, c.requires.place, c.args.base.now.file.layout.clients_within)

pub offset_bounds-fields-place : goal.offset_bounds-fields-place
offset_bounds-fields-place g c = omega (arith, c.requires.place, c.args.base.now.file.layout.clients_within)

pub returns-then-eq-clause-mends : goal.returns-then-eq-clause-mends
unfolding no_checksum
returns-then-eq-clause-mends g c = λ t o tell shows. let b = c.args.base.now in
    let below : c.args.place < 64 = omega (arith, c.requires.place, b.file.layout.clients_within) in
    let at = sum_there c.fields-fields.result.now b.content c.args.place _ c.fields-fields.ensures.value below
    c.fields-fields.ensures.usable in reply_none b c.args.slots.now c.args.sessions.now c.args.place t o _ _ tell shows refl refl
    (not_named b (superblock_units b t.shown) c.args.slots.now c.args.sessions.now c.args.place shows.has _ at
    ((bytes_eq-Decides _ no_checksum).0 (sym c.eq.ensures ∙ c.if-eq.true)))

pub returns-in_default-clause-mends : goal.returns-in_default-clause-mends
returns-in_default-clause-mends g c = λ t o tell shows. absurd (no_session c.args.sessions.now.sessions c.args.place c.requires.place.0
    (sym c.get.ensures ∙ c.in_default.is))

pub returns-then-has_later-clause-mends : goal.returns-then-has_later-clause-mends
returns-then-has_later-clause-mends g c = λ t o tell shows. let b = c.args.base.now in
    reply_none b c.args.slots.now c.args.sessions.now c.args.place t o _ _ tell shows refl refl
    (not_behind b (superblock_units b t.shown) c.args.slots.now c.args.sessions.now c.args.place shows.has c.in-Some.session
    (sym c.get.ensures ∙ c.in-Some.is) (c.has_later.ensures.yes (superblock_units b t.shown) shows.has.tells c.if-has_later.true))

-- the place can't be read

pub returns-in_default-see-clause-mends : goal.returns-in_default-see-clause-mends
unfolding no_checksum
returns-in_default-see-clause-mends g c = λ t o tell shows. let lent = c.fields-fields.ensures in
    reply_recorded c.args.base.now c.args.slots.now c.args.sessions.now c.args.place t o _ _ tell shows c.in-Some.session
    (sym c.get.ensures ∙ c.in-Some.is) c.fields-fields.result.now lent.value lent.usable c.requires.place.1 _ _ c.eq.ensures c.if-eq.false
    (c.has_later.ensures.no _ shows.has.tells c.if-has_later.false)
    (Err First) (recorded_unread c.args.base.now c.args.place _ t o _ tell _ c.see.ensures.same)

-- something newer is shown

pub returns-then-fields-header-clause-mends : goal.returns-then-fields-header-clause-mends
unfolding no_checksum
returns-then-fields-header-clause-mends g c = λ t o tell shows. let b = c.args.base.now in let lent = c.fields-fields.ensures in
    let seen = subst (λ (l : Layout). IsSeen l b.file.cluster (g.A.Disk.told c.args.first.now) (place_of (ReplyPlace c.args.place))
    c.in-Ok.seen) c.requires.layout c.in-Ok.ensures.seen in
    let boot = c.if-header-fields.true ∙ ap (λ (f : SuperFields). f.boot) lent.value in
    let above = subst (λ (f : SuperFields). f.replies < c.in-Ok-seen.header.op) lent.value c.if-fields-header.true in
    let newer = subst (IsNewer b) (sym c.in-Ok-seen.is) (boot, above) in
    reply_recorded b c.args.slots.now c.args.sessions.now c.args.place t o _ _ tell shows c.in-Some.session
    (sym c.get.ensures ∙ c.in-Some.is) c.fields-fields.result.now lent.value lent.usable c.requires.place.1 _ _ c.eq.ensures c.if-eq.false
    (c.has_later.ensures.no _ shows.has.tells c.if-has_later.false)
    (Ok 0) (recorded_newer b c.args.place _ t o _ tell _ c.see.ensures.same c.in-Ok.seen seen newer)

-- nothing newer is

pub returns-clause-mends : goal.returns-clause-mends
unfolding no_checksum
returns-clause-mends g c = λ t o tell shows. let b = c.args.base.now in let fields = c.fields-fields.result.now in
    let same = c.fields-fields.ensures.value in let usable = c.fields-fields.ensures.usable in
    let seen = subst (λ (l : Layout). IsSeen l b.file.cluster (g.A.Disk.told c.args.first.now) (place_of (ReplyPlace c.args.place))
    c.in-Ok.seen) c.requires.layout c.in-Ok.ensures.seen in let none : IsNewer b c.in-Ok.seen → ⊥ = λ newer. elim c.match-seen.branch [
      | in-Ok-seen+else-header-fields w ↦ let it : IsNewer b (Ok w.in-Ok-seen.header) = subst (IsNewer b) w.in-Ok-seen.is newer in
          elim w.else-header-fields.branch [
            | else-header-fields-via-then-header-fields+else-fields-header v ↦
                omega (arith, v.if-fields-header.false, it.1, ap (λ (f : SuperFields). f.replies) same)
            | else-header-fields-via-else-header-fields v ↦ v.if-header-fields.false (it.0 ∙ ap (λ (f : SuperFields). f.boot) (sym same))
          ]
      | in_default-seen w ↦ subst (IsNewer b) w.in_default-seen.is newer
    ] in reply_recorded b c.args.slots.now c.args.sessions.now c.args.place t o _ _ tell shows c.in-Some.session
    (sym c.get.ensures ∙ c.in-Some.is) fields same usable
    c.requires.place.1 _ _ c.eq.ensures c.if-eq.false (c.has_later.ensures.no _ shows.has.tells c.if-has_later.false) c.mend_unit.result
    (recorded_mended b c.args.place _ t o _ tell _ c.see.ensures.same c.in-Ok.seen seen none c.known-wanted.result
    c.known-wanted.ensures.known
    (check_there fields b.content c.args.place _ same (omega (arith, c.requires.place, b.file.layout.clients_within)) usable) _
    c.mend_unit.new.shelf.held c.mend_unit.result c.mend_unit.ensures.mends c.mend_unit.ensures.shown)
