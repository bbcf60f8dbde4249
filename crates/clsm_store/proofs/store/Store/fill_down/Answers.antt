use Rattle.clsm_store.proofs.store.Store.fill_down.Goals as goal

pub returns-clause-page : goal.returns-clause-page
returns-clause-page g c =
    let read = c.read_down-paged.ensures in
    record {
      reads = record {
        first = c.read_down-paged.result.first;
        answers = read.answers;
        clock = read.clock;
        reached = read.reached;
        page = read.page;
      };
      lock = read.lock;
      filled = read.ready;
      rest = read.goes_on.rest;
    }
