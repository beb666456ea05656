-- The session at the place is read, changed and put back.
use Rattle.std.proofs.Common.{◌≡◌, ap, ◌∙◌}
use Rattle.df_sessions.{specs.{Table.{Table, requested}, Requests.{sessions_of}}, proofs.{Noted.{reply_unnoted}, Applied.{has_reply, reply_stays_table}}}
use Rattle.df_sessions.proofs.table.SessionTable.store.Goals as goal

pub invariant_of-self : goal.invariant_of-self
invariant_of-self c = let a = c.args in let t = c.self.inside in let read : c.deref.result.now ≡ t.sessions.items = c.deref.ensures.0 in
    let put = rw read at c.put.ensures.items in
    reply_stays_table t.max a.place a.reply t.sessions.items c.put.new.sessions.items a.self.now c.self.view_is c.self.invariant
    (has_reply t.max a.place a.reply t.sessions.items c.put.new.sessions.items (requested 0 0 0) a.self.now c.self.view_is c.requires put)

pub returns : goal.returns
returns c = let a = c.args in let t = c.self.inside in let read : c.deref.result.now ≡ t.sessions.items = c.deref.ensures.0 in
    let put = rw read at c.put.ensures.items in let has =
    has_reply t.max a.place a.reply t.sessions.items c.put.new.sessions.items (requested 0 0 0) a.self.now c.self.view_is c.requires put in
    record {
      sessions = has.sessions;
      places = ap (λ (table : Table). table.max) c.self.view_is;
      others = has.others;
      history = has.history;
      unnoted = ap sessions_of has.sessions ∙ reply_unnoted a.place a.reply a.self.now.sessions;
    }
