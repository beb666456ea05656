-- Where the client is known its session is put at its place, and else it is pushed.
use Rattle.{std.proofs.Common.{lit<}, df_sessions.proofs.Applied.{known_client, new_client, stays_table, has_room}}
use Rattle.df_sessions.proofs.table.SessionTable.apply.Goals as goal

pub invariant_of-self : goal.invariant_of-self
invariant_of-self c = let a = c.args in let t = c.self.inside in stays_table t.max a.client a.request a.op
    t.sessions.items c.put.new.sessions.items c.in-Some.place a.self.now c.self.view_is c.self.invariant c.requires.named c.requires.room
    (known_client t.max a.client a.request
    a.op t.sessions.items c.put.new.sessions.items c.in-Some.place a.self.now c.self.view_is c.in-Some.ensures c.put.ensures.items)

pub returns-in-Some : goal.returns-in-Some
returns-in-Some c = let a = c.args in let t = c.self.inside in known_client t.max a.client
    a.request a.op t.sessions.items c.put.new.sessions.items c.in-Some.place a.self.now c.self.view_is c.in-Some.ensures c.put.ensures.items

pub push-requires : goal.push-requires
push-requires c = let t = c.self.inside in
    (lit< tt, has_room t.max c.args.client t.sessions.items c.args.self.now c.self.view_is c.self.invariant c.in-None.ensures c.requires.room)

pub invariant_of-self-in-None : goal.invariant_of-self-in-None
invariant_of-self-in-None c = let a = c.args in let t = c.self.inside in stays_table t.max a.client a.request a.op
    t.sessions.items c.push.new.self.items c.len-place.result a.self.now c.self.view_is c.self.invariant c.requires.named c.requires.room
    (new_client t.max a.client a.request a.op t.sessions.items
    c.push.new.self.items c.len-place.result a.self.now c.self.view_is c.in-None.ensures c.push.ensures.items c.len-place.ensures.value)

pub returns-in-None : goal.returns-in-None
returns-in-None c = let a = c.args in let t = c.self.inside in new_client t.max a.client a.request a.op t.sessions.items
    c.push.new.self.items c.len-place.result a.self.now c.self.view_is c.in-None.ensures c.push.ensures.items c.len-place.ensures.value
