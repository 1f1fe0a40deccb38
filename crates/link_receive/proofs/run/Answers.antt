use Rattle.link_receive.proofs.Runs.{run_refused, run_ready, run_done}
use mathlib.Core.Path.{refl}
use Rattle.link_receive.proofs.run.Goals as goal

pub records-requires : goal.records-requires
records-requires c = search run_ready

pub returns-in-Err : goal.returns-in-Err
returns-in-Err c = let a = c.args in
    rw (run_refused a.e a.store.now a.n a.bytes.now a.out.now refl c.in-Err.ensures) (record { accepted = refl; used = refl; written = refl; stop = refl; endpoint = refl; store = refl; out = refl })

pub returns-in-Ok : goal.returns-in-Ok
returns-in-Ok c = let a = c.args in
    rw (run_done a.e a.store.now a.n a.bytes.now a.out.now refl c.in-Ok.ensures) c.records.ensures
