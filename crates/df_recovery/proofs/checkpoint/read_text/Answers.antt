-- What the chain and its text say is the checkpoint's, and each refusal of them is one of the trailer.
use Rattle.std.{proofs.Common.{◌≡◌, ◌+◌, ◌/◌, ℕ, List, refl, sym, ◌∙◌, ap, subst, arith}, specs.Prelude.{Err, vec_len}}
use Rattle.{df_layout.specs.declared.layout.Layout.{Layout}, df_format.specs.declared.superblock.SuperFields.{SuperFields}}
use Rattle.{df_units.specs.Meaning.{layout_of}, df_checkpoint.specs.Reads.{IsCompleteReader}, df_grid.specs.Grid.{GridState}}
use Rattle.df_trailer.specs.{Reading.{HasRead}, Sessions.{AreReadSessions}, declared.reader.Reader.{Reader}}
use Rattle.{df_model.specs.declared.errors.OpenError.{OpenError}, df_sessions.specs.{Table.{Table}, declared.session.Session.{Session}}}
use Rattle.{df_checkpoint.proofs.Laws.{complete_gives}, df_rooms.specs.{State.{shape}, declared.file.DataFile.{DataFile}}}
use Rattle.df_recovery.{specs.Checkpoints.{TellsCheckpoint, TellsText}, proofs.Bases.{room_fits, told_refused, told_text}}
use Rattle.df_recovery.proofs.checkpoint.read_text.Goals as goal

-- the sessions of a whole text are in their ranges, and no two of them are one
read_as : (file : DataFile) (f : SuperFields) (g : GridState) (reader : Reader) (items : List Session) → IsCompleteReader g f.op reader
    → g.layout ≡ file.layout → ((l : Layout) (op : ℕ) (text : List ℕ) → HasRead l op reader text → AreReadSessions l.clients op items)
    → AreReadSessions file.layout.clients f.op items
read_as file f g reader items whole same gives = complete_gives (λ (l : Layout) (op : ℕ). AreReadSessions l.clients op items) g f.op
    reader file.layout whole same gives

pub invariant_of-room : goal.invariant_of-room
invariant_of-room g c = let room = c.in-Some.room in
    let fits = room_fits c.args.trailer.now.reader room c.args.trailer.now.layout c.args.trailer.now.reader_fits c.in-Some.ensures.value in
    let same = ap (λ (x : GridState). x.layout) c.requires.rooms.grid_is ∙ sym c.requires.rooms.rooms_are ∙ sym fits in record {
      bits_fit = complete_gives (λ (l : Layout) (op : ℕ). vec_len c.into_parts-parts.result.bits ≡ (l.blocks + 63) / 64) c.args.grid.now
          c.args.content.now.op c.read_chain.new.reader room.layout c.in-Ok.ensures.complete same c.into_parts-parts.ensures.bits;
      checks_fit = complete_gives (λ (l : Layout) (op : ℕ). vec_len c.into_parts-parts.result.checks ≡ l.blocks) c.args.grid.now
          c.args.content.now.op c.read_chain.new.reader room.layout c.in-Ok.ensures.complete same c.into_parts-parts.ensures.checks;
    }

pub over-requires-clause-few : goal.over-requires-clause-few
over-requires-clause-few g c = (read_as c.args.file.now c.args.content.now c.args.grid.now c.read_chain.new.reader
    c.into_parts-parts.result.sessions.items
    c.in-Ok.ensures.complete (ap (λ (x : GridState). x.layout) c.requires.rooms.grid_is) c.into_parts-parts.ensures.sessions).few

pub over-requires-clause-named : goal.over-requires-clause-named
over-requires-clause-named g c = λ k s at zero.
    let read = read_as c.args.file.now c.args.content.now c.args.grid.now c.read_chain.new.reader c.into_parts-parts.result.sessions.items
    c.in-Ok.ensures.complete (ap (λ (x : GridState). x.layout) c.requires.rooms.grid_is) c.into_parts-parts.ensures.sessions in
    omega (arith, (read.each k s at).client, zero)

pub over-requires-clause-apart : goal.over-requires-clause-apart
over-requires-clause-apart g c = (read_as c.args.file.now c.args.content.now c.args.grid.now c.read_chain.new.reader
    c.into_parts-parts.result.sessions.items
    c.in-Ok.ensures.complete (ap (λ (x : GridState). x.layout) c.requires.rooms.grid_is) c.into_parts-parts.ensures.sessions).clients

pub returns-in-Ok-clause-reads : goal.returns-in-Ok-clause-reads
returns-in-Ok-clause-reads g c = let file = c.args.file.now in let f = c.args.content.now in let told = g.D.Disk.told c.args.disk.now in
    let layout = ap (λ (x : GridState). x.layout) c.requires.rooms.grid_is in
    let cluster = ap (λ (x : GridState). x.cluster) c.requires.rooms.grid_is in let parts = c.into_parts-parts.result in
    let table = sym c.over.ensures in record {
      tells = rw (← table) (told_text file
          told f c.read_chain.new.grid c.args.grid.now c.read_chain.new.reader parts layout cluster (c.in-Ok.ensures.grid.layout ∙ layout)
          (c.in-Ok.ensures.answer (shape file) (ap layout_of (sym layout)) refl) c.into_parts-parts.ensures.parts);
      sessions = subst (λ (t : Table). AreReadSessions file.layout.clients f.op t.sessions) table
          (read_as file f c.args.grid.now c.read_chain.new.reader parts.sessions.items c.in-Ok.ensures.complete layout
          c.into_parts-parts.ensures.sessions);
      places = ap (λ (t : Table). t.max) c.over.ensures;
    }

pub returns-in-Err-clause-reads : goal.returns-in-Err-clause-reads
returns-in-Err-clause-reads g c = let file = c.args.file.now in let told = g.D.Disk.told c.args.disk.now in
    let layout = ap (λ (x : GridState). x.layout) c.requires.rooms.grid_is in
    let cluster = ap (λ (x : GridState). x.cluster) c.requires.rooms.grid_is in rw (sym c.refusal.ensures) at (told_refused file
    told c.args.content.now c.read_chain.new.grid c.args.grid.now c.read_chain.new.reader c.in-Err.fault layout cluster c.requires.named
    (c.in-Err.ensures.answer (shape file) (ap layout_of (sym layout)) refl))
