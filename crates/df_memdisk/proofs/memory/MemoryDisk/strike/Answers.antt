-- The newest strike is this one.
use Rattle.{std.{proofs.Common.{◌≡◌, List, length, sym, ap, ◌∙◌}, specs.Prelude.{reverse}}, df_base.specs.Log.{now}}
use Rattle.df_disk.specs.Told.{Told}
use Rattle.df_memdisk.{specs.{History.{events_of}, State.{DiskState, told_by, told_of}, Strikes.{bytes_by, hit}, declared.history.Happened.{Happened}, declared.shown.Struck.{Struck}}, proofs.{Struck.{told-struck, hit-log}, memory.MemoryDisk.strike.Goals.{in-Ok, in-Err}}}
use Rattle.df_memdisk.proofs.memory.MemoryDisk.strike.Goals as goal

pub returns-clause-struck : goal.returns-clause-struck
returns-clause-struck c = let count : length c.as_slice.result.now ≡ length c.self.inside.past.items =
    ap (λ (hs : List Happened). length hs) c.as_slice.ensures.value in let bytes : c.bytes_of_strike-bytes.result
    ≡ bytes_by c.args.strike c.args.sector (told_by (events_of c.self.inside.past.items) (reverse c.self.inside.strikes.items)) =
    c.bytes_of_strike-bytes.ensures ∙ ap (λ (hs : List Happened).
    bytes_by c.args.strike c.args.sector (told_by (events_of hs) (reverse c.deref-2.result.now))) c.deref.ensures.value
    ∙ ap (λ (ss : List Struck).
    bytes_by c.args.strike c.args.sector (told_by (events_of c.self.inside.past.items) (reverse ss))) c.deref-2.ensures.value in
    elim c.match-push.branch [
      | in-Ok w ↦ rw w.result-is (told-struck c.self.inside.past.items c.self.inside.strikes.items c.push.new.self.items
          record { events = length c.as_slice.result.now; sector = c.args.sector; bytes = c.bytes_of_strike-bytes.result } c.args.strike
          w.in-Ok.ensures.items count bytes ∙ ap (λ (d : DiskState). hit c.args.sector c.args.strike (told_of d)) c.self.view_is)
      | in-Err w ↦ rw w.result-is tt
    ]

pub returns-clause-mended : goal.returns-clause-mended
returns-clause-mended c = let struck = returns-clause-struck c in elim c.match-push.branch [
  | in-Ok w ↦ rw w.result-is (λ shows. let told = rw w.result-is at struck in ap (λ (t : Told). t.shown c.args.sector) told
      ∙ hit-log c.args.sector c.args.strike (told_of c.args.self.now) shows ∙ sym (ap (λ (t : Told). now t.log c.args.sector) told))
  | in-Err w ↦ rw w.result-is tt
]
