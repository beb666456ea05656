-- What is planned makes sense, and as many prepares wait as are above the stored replies. The plan is that of the rooms' layout, which is
-- the file's.
use Rattle.{std.proofs.Common.{◌-◌, ◌≡◌, ◌∙◌, ap, rules, subst, length, arith}, df_layout.specs.declared.layout.Layout.{Layout}}
use Rattle.df_recovery.{specs.{Plan.{ArePlanned}, Surveying.{ArePlannedFrom}, Waiting.{waiting_in}}, proofs.Waits.{waiting_count}}
use Rattle.df_recovery.proofs.surveying.with_plan.Goals as goal

pub returns-clause-found : goal.returns-clause-found
returns-clause-found c = let scanned = c.requires.scanned in
    let count : length c.waiting_of-waiting.result.items ≡ c.args.traces.now.tail.op - c.args.traces.now.replies =
    ap length c.waiting_of-waiting.ensures ∙ waiting_count c.args.scanned.rooms.log.layout.slots c.args.scanned.rooms.log.slots
    c.plan.new.headers c.args.traces.now.replies c.args.traces.now.tail.op in record {
      read = record {
        named = scanned.named;
        version = scanned.version;
        size = scanned.size;
        fields = scanned.fields;
        start = scanned.start;
        slots = scanned.slots;
        places = scanned.places;
        idle = scanned.idle;
      };
      ends = c.requires.tail;
      sessions = c.requires.sessions;
      waiting = omega (arith, count, c.requires.tail.order);
    }

pub returns-clause-planned : goal.returns-clause-planned
returns-clause-planned c = let same = c.args.scanned.rooms.log_fits ∙ c.args.scanned.rooms_fit in
    let cluster = c.args.scanned.file.cluster in let slots = c.args.scanned.rooms.log.slots in let copies = c.args.scanned.copies in
    let head = c.args.traces.now.tail.op in record {
      plan = subst (λ (l : Layout). ArePlannedFrom l cluster slots head copies.slots copies.found.chosen.members c.plan.new.headers
          c.plan.new.mends.items) same (record {
            is_table = c.plan.ensures.table;
            from = c.plan.ensures.tells;
            others = c.plan.ensures.whole;
            list = c.plan.ensures.lists;
          });
      each = subst (λ (l : Layout). ArePlanned cluster slots head l.slots c.plan.new.headers) same c.plan.ensures.each;
      four = search rules;
    }

pub returns-clause-waiting : goal.returns-clause-waiting
returns-clause-waiting c = let same = c.args.scanned.rooms.log_fits ∙ c.args.scanned.rooms_fit in c.waiting_of-waiting.ensures
    ∙ ap (λ (l : Layout). waiting_in l.slots c.args.scanned.rooms.log.slots c.plan.new.headers c.args.traces.now.replies
    c.args.traces.now.tail.op) same
