-- One worker more is gathered.
use Rattle.std.proofs.Common.{◌≡◌, List, [], ◌∷◌, ◌++◌, map, refl, sym, ap, ◌∙◌, append_assoc}
use Rattle.std.specs.Prelude.{flat_map}
use Rattle.clsm_model.specs.declared.record.CallRecord.{CallRecord}
use Rattle.clsm_store_calls.specs.Seats.{SeatState}
use Rattle.clsm_workload.specs.declared.worker.Worked.{Worked}

abbrev pub seats_of : List Worked → List SeatState
seats_of ws = map (λ (w : Worked). w.seat) ws

abbrev pub parts_of : List Worked → List (List CallRecord)
parts_of ws = map (λ (w : Worked). w.made.records.items) ws

abbrev pub records_by : List Worked → List CallRecord
records_by ws = flat_map (λ (w : Worked). w.made.records.items) ws

pub joined_parts : (ws : List Worked) → records_by ws ≡ flat_map (λ (part : List CallRecord). part) (parts_of ws)
joined_parts [] = refl
joined_parts (w ∷ ws) = ap (λ (l : List CallRecord). w.made.records.items ++ l) (joined_parts ws)

-- the seats so far and those to come stay the same
pub gathers : (all all' : List SeatState) (w : Worked) (rest ws old : List Worked) → all' ≡ all ++ w.seat ∷ [] → rest ≡ w ∷ ws → all ++ seats_of rest
    ≡ seats_of old → all' ++ seats_of ws ≡ seats_of old
gathers all all' w rest ws old more is e =
    ap (λ (x : List SeatState). x ++ seats_of ws) more
    ∙ (append_assoc all (w.seat ∷ []) (seats_of ws)
    ∙ (ap (λ (x : List Worked). all ++ seats_of x) (sym is) ∙ e))

-- and so the records
pub gathers_records : (all all' : List CallRecord) (w : Worked) (rest ws old : List Worked) → all' ≡ all ++ w.made.records.items → rest ≡ w ∷ ws
    → all ++ records_by rest ≡ records_by old → all' ++ records_by ws ≡ records_by old
gathers_records all all' w rest ws old more is e =
    ap (λ (x : List CallRecord). x ++ records_by ws) more
    ∙ (append_assoc all w.made.records.items (records_by ws)
    ∙ (ap (λ (x : List Worked). all ++ records_by x) (sym is) ∙ e))
