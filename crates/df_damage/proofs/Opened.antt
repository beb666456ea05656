-- What an open finds on a disk that may be hurt.
use Rattle.{std.proofs.{Common.{◌≡◌, ◌⊎◌, inl, inr, ℕ, ◌<◌, ◌≤◌, Some, ◌∙◌, ap, arith}, lemmas.Bool.{cases_lt}}, df_disk.specs.Told.{Told}}
use Rattle.{df_layout.specs.declared.places.Zone.TheVariants.{ClientReplies, Grid, Superblock, WalPrepares}, df_units.specs.Bytes.{unit_at}}
use Rattle.df_theory.{specs.{Copies.{Agree}, Found.{IsFound}, Shows.{Needs}, Tails.{In}, UnitLog.{settled}, Units.{AnyUnit, BlockPlace, CopyPlace, Header, HeaderPlace, HeaderUnit, Message, Place, PreparePlace, ReplyPlace, Units}, View.{View, boot_of, head}}, proofs.Laws.{checkpoint_stays_law, found_law, hurt_law, one_found_law}}
use Rattle.df_recovery.specs.Below.{DataFile, shape}
use Rattle.df_damage.{specs.{Disks.{MayBeHurtAs}, Hurt.{IsUnhurtZone}, Openings.{CheckpointStays, FoundWasHad, HasEachHeader, HeadersMayBeHurt, HeadersTell, OpensAsLeftAs, TwoCopiesAreEnough}, Versions.{IsUnspent}}, proofs.{Barriers.{agreed_rest, agreed_zone, empty, had, left, log, pooled, rests, shown, shows_settled, unhurt_zone, was}, Files.{opened_file, opened_found}, Later.{WasHeader, one_later, settled_header}, NotRefused.{found_is_not_refused_as}}}

-- ---- what is found was had

pub found_was_had : FoundWasHad
found_was_had version file view t s may is = (opened_file file view t may s is, had file view t may is.view (opened_found file view t may s is))

-- ---- what the view needs isn't hurt

module _ {version : ℕ}
    (file : DataFile) (view : View) (t : Told) (may : MayBeHurtAs version file view t) (unspent : IsUnspent version view) where
  -- the file is opened as it was left, where its view is found
  pub as_left : IsFound (shape file) (unit_at file.layout file.cluster t.shown) view → OpensAsLeftAs version file view t
  as_left found = record {
    found = found;
    opens = found_is_not_refused_as version file t.shown view may.known may.version_is unspent may.whole found;
    finds = λ s is. (opened_file file view t may s is, one_found_law (shape file) (unit_at file.layout file.cluster t.shown) is.view view (opened_found file view t may s is) found);
  }

  pub needed_stand : Agree (unit_at file.layout file.cluster t.shown) view.checkpoint.content → IsUnhurtZone file.layout t WalPrepares
      → IsUnhurtZone file.layout t ClientReplies → IsUnhurtZone file.layout t Grid → OpensAsLeftAs version file view t
  needed_stand agreed prepares replies blocks = as_left ((found_law (shape file) (shown file view t may) view).0 (hurt_law
      (shape file) (log file view t may) view (shown file view t may) (rests file view t may) (pooled file view t may) agreed stands))
    where
      stands : (place : Place) (x : AnyUnit) → Needs (shape file) view place x → unit_at file.layout file.cluster t.shown place ≡ Some x
      stands (CopyPlace n) x need = absurd need
      stands (HeaderPlace s) x need = absurd need
      stands (PreparePlace s) x need =
          unhurt_zone file view t may (PreparePlace s) prepares ∙ (rests file view t may).holds.bears.needs (PreparePlace s) x need
      stands (ReplyPlace k) x need =
          unhurt_zone file view t may (ReplyPlace k) replies ∙ (rests file view t may).holds.bears.needs (ReplyPlace k) x need
      stands (BlockPlace a) x need =
          unhurt_zone file view t may (BlockPlace a) blocks ∙ (rests file view t may).holds.bears.needs (BlockPlace a) x need

pub two_copies_are_enough_as : TwoCopiesAreEnough
two_copies_are_enough_as version file view t may unspent rest two inside = needed_stand file view t may unspent
    (agreed_rest file view t may rest two) (inside WalPrepares (λ is. cc)) (inside ClientReplies (λ is. cc)) (inside Grid (λ is. cc))

pub headers_may_be_hurt_as : HeadersMayBeHurt
headers_may_be_hurt_as version file view t may unspent inside =
    needed_stand file view t may unspent (agreed_zone file view t may (inside Superblock (λ is. cc)))
    (inside WalPrepares (λ is. cc)) (inside ClientReplies (λ is. cc)) (inside Grid (λ is. cc))

pub checkpoint_stays : CheckpointStays
checkpoint_stays version file view t s may rest two is = checkpoint_stays_law (shape file) (log file view t may) view is.view
    (shown file view t may) (rests file view t may) may.no_chance (agreed_rest file view t may rest two) (opened_found file view t may s is)

-- ---- headers

pub headers_tell : HeadersTell
headers_tell version file view t s may unhurt is = (each, λ copies. checkpoint_stays_law (shape file) (log file view t may) view is.view (shown file view t may) (rests file view t may) may.no_chance (agreed_zone file view t may copies) found)
  where
    found : IsFound (shape file) (unit_at file.layout file.cluster t.shown) is.view
    found = opened_found file view t may s is

    -- a prepare with this header, that any view had, is one of the view that is found
    in_found : (h : Header) → (h.op ≤ head is.view) ⊎ (h.boot < boot_of is.view) → is.view.checkpoint.content.op < h.op → WasHeader (shape file) (settled (log file view t may)) view (rests file view t may).grows h → (p : Message) × In p is.view.tail × (p.header.op ≡ h.op) × (p.header.checksum ≡ h.checksum)
    in_found h low above had = (had.prepare, there, ap (λ (g : Header). g.op) had.own, ap (λ (g : Header). g.checksum) had.own)
      where
        there : In had.prepare is.view.tail
        there = elim (one_later (shape file) (settled (log file view t may))
            view (rests file view t may).grows had.view is.view had.was (was file view t may is.view found)) [
              | inl later ↦ later.kept had.prepare had.in_tail (omega (arith, above, ap (λ (g : Header). g.op) had.own))
              | inr later ↦ elim (later.new had.prepare had.in_tail) [
                | inl old ↦ old
                | inr new ↦ elim low [
                  | inl to ↦ absurd (omega (arith, to, new.0, ap (λ (g : Header). g.op) had.own))
                  | inr less ↦ absurd (omega (arith, less, new.1, ap (λ (g : Header). g.boot) had.own))
                ]
              ]
            ]

    -- what is shown isn't above the head that is found, or of an earlier boot
    not_lost : (slot : ℕ) (h : Header) → unit_at file.layout file.cluster t.shown (HeaderPlace slot) ≡ Some (HeaderUnit h)
        → (h.op ≤ head is.view) ⊎ (h.boot < boot_of is.view)
    not_lost slot h here = elim (cases_lt h.boot (boot_of is.view)) [
      | inl less ↦ inr less
      | inr from ↦ inl (found.not_lost.header slot h here (omega (arith, from, (found.not_behind.header slot h here).2)))
    ]

    each : HasEachHeader file t is.view
    each slot h at above = let here : unit_at file.layout file.cluster t.shown (HeaderPlace slot) ≡ Some (HeaderUnit h) =
        unhurt_zone file view t may (HeaderPlace slot) unhurt ∙ ap (λ (u : Units). u (HeaderPlace slot)) (left file view t may) ∙ at in
        elim (settled_header (shape file) (settled (log file view t may)) view (rests file view t may).grows
        (empty file view t may) slot h (shows_settled file view t may (HeaderPlace slot) (HeaderUnit h) here)) [
          | inl reserved ↦ absurd (omega (arith, above, reserved))
          | inr had ↦ in_found h (not_lost slot h here) above had
        ]
