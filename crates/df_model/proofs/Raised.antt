-- A log that is restarted after an open is kept by the state after its boot update.
use Rattle.std.proofs.Common.{◌≡◌, inl, inr, ℕ, List, false, true, refl, ap, subst, arith}
use Rattle.df_theory.{specs.{Units.{Content, Header, Parts, Units}, Shape.{Shape}, View.{View}, Holds.{Stands}, Next.{booted}, UnitLog.{UnitLog, now, settled}, Grown.{IsClear}, Runs.{after_steps}, MendLaws.{mend_steps}, CopyPuts.{PutsCopies, update_steps}, WholeLaws.{IsStanding}, Upgrades.{BeginsRaised, EndsRaised, IsCleanBeyond, MayRaise, of_version, raise_steps, restarted_at}}, proofs.Laws.{raise_ends_law, stands_law}}
use Rattle.df_model.{specs.{Work.{Work, opened, raised}, Codec.{IsCodec}, Memory.{memory_of}, Making.{boot_content}, Sense.{IsBacked, IsVersionTwo, IsWork}, Laws.{IsKeptBy}, Boots.{RaisedKeptLaw, Raises}}, proofs.{Boots.{raised_law, stands_last}, NoBlocks.{mend_no_blocks, no_blocks_both, spare_all, update_no_blocks}, Runs.{found_law}}}

-- ---- what is begun after it

module _ (sh : Shape) (spell : Parts → List ℕ) (image : Units) (v : View) (table : ℕ → Header) (headers : List Units)
    (copies : List (ℕ × Units)) (sum : ℕ) (puts : PutsCopies (boot_content (memory_of sh spell (opened sh image v)) sum))
    (codec : IsCodec sh spell) (two : IsVersionTwo sh v) (may : MayRaise sh v.checkpoint.content.version
    image v table headers copies (boot_content (memory_of sh spell (opened sh image v)) sum)) (beyond : IsCleanBeyond image v) where
  abbrev d : Content
  d = boot_content (memory_of sh spell (opened sh image v)) sum

  abbrev u : Work
  u = raised (opened sh image v) d

  abbrev end : UnitLog
  end = after_steps (raise_steps headers copies puts) (restarted_at image)

  work : IsWork sh spell (opened sh image v)
  work = found_law sh spell image v codec two may.places may.found

  raises : Raises sh spell (opened sh image v) d
  raises = raised_law sh spell (opened sh image v) sum work may.boot.unspent

  file : of_version v.checkpoint.content.version sh ≡ sh
  file = ap (λ (n : ℕ). of_version n sh) work.view.checkpoint.tests.version

  ends : EndsRaised (of_version v.checkpoint.content.version sh) end (booted v d)
      × (IsCleanBeyond image v → BeginsRaised (of_version v.checkpoint.content.version sh) (now end) (booted v d))
  ends = raise_ends_law sh v.checkpoint.content.version image v table headers copies d puts may

  ended : EndsRaised sh end (booted v d)
  ended = subst (λ (s : Shape). EndsRaised s end (booted v d)) file ends.0

  begins : BeginsRaised sh (now end) (booted v d)
  begins = subst (λ (s : Shape). BeginsRaised s (now end) (booted v d)) file (ends.1 beyond)

  -- each prepare that is shown is of an earlier boot
  clear : IsClear (settled (restarted_at (now end))) (booted v d)
  clear s p at own = elim at [
    | inl here ↦ absurd (omega (arith, begins.raised.prepares s p here, own))
    | inr none ↦ absurd none
  ]

  pub begun_kept : IsKeptBy sh spell (restarted_at (now end)) u
  begun_kept = record {
    sense = raises.sense;
    tidy = record { rests = begins.rests; quiet = λ place wet. absurd (let no_unit : false ≡ true = wet in cc); clear = clear; whole = ended.whole };
    written = λ r none. absurd (cc);
  }

  pub begun_backed : Stands image v → IsBacked (restarted_at (now end)) u
  begun_backed stands = let first : IsStanding (restarted_at image) v = record { shown = stands; firm = λ a c is. refl } in
      let none = no_blocks_both (mend_steps headers copies) (update_steps puts) (mend_no_blocks table
      headers v.checkpoint.content may.agreed.first may.agreed.second copies may.puts_headers may.puts_copies) (update_no_blocks d puts) in
      let spare = spare_all v (raise_steps headers copies puts) none in let last = stands_last v (raise_steps headers copies puts)
      (restarted_at image) (stands_law (restarted_at image) v (raise_steps headers copies puts) first spare) in record {
        standing = record { shown = last.shown; firm = λ a c is. refl };
        live = last.shown;
        captured = λ r none. absurd (cc);
      }

pub raised_kept_law : RaisedKeptLaw
raised_kept_law sh spell image v table headers copies sum puts codec two may beyond = (begun_kept sh spell image v table headers copies sum puts codec two may beyond, begun_backed sh spell image v table headers copies sum puts codec two may beyond)
