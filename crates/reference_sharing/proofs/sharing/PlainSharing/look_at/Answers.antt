use Rattle.std.proofs.Common.{◌≡◌, ◌∙◌, ◌==◌, ◌&&◌, bytes_eq, Bool, if◌then◌else◌, ℕ, List, false, sym, ap}
use Rattle.host_types.specs.declared.visited.Visited.TheVariants as visited
use Rattle.host_types.specs.Pages.{zero_page, fingerprint_of}
use Rattle.host_types.specs.Sharing.{Sharing, zeroed}
use Rattle.host_types.specs.Visits.{had, has_open, paired_or_waiting, find_partner, changed, joined}
use Rattle.reference_sharing.specs.View.{plain_contents}
use Rattle.host_types.proofs.Visits.{looked-joined, looked-changed, looked-zeroed, looked-paired_or_waiting}
use Rattle.reference_sharing.proofs.sharing.PlainSharing.look_at.Goals as goal
use Rattle.reference_sharing.proofs.sharing.PlainSharing.look_at.Goals.{After-had, After-goes_to_zeros}

pub returns-then-is_joined : goal.returns-then-is_joined
returns-then-is_joined c =
    let after : c.join.new.self ≡ joined (plain_contents c.args.contents.now) c.args.self.now c.args.page_index =
    c.in_ok-is_joined.ensures.joined ∙ ap (λ (b : Bool). if b then joined (plain_contents c.args.contents.now) c.args.self.now c.args.page_index else c.args.self.now) c.if-is_joined.true in
    looked-joined (plain_contents c.args.contents.now) c.args.self.now c.args.page_index c.args.last (sym c.in_ok-is_joined.ensures.answered ∙ c.if-is_joined.true)
    ∙ ap (λ (s : Sharing). (visited.Joined, s)) (sym after)

-- a page that goes into no group leaves all as it was
stay : (c : After-had) → c.join.new.self ≡ c.args.self.now
stay c = c.in_ok-is_joined.ensures.joined ∙ ap (λ (b : Bool). if b then joined (plain_contents c.args.contents.now) c.args.self.now c.args.page_index else c.args.self.now) c.if-is_joined.false

alone : (c : After-had) → has_open (plain_contents c.args.contents.now) c.args.self.now c.args.page_index ≡ false
alone c = sym c.in_ok-is_joined.ensures.answered ∙ c.if-is_joined.false

fingerprint : (c : After-had) → c.fingerprint-fingerprint.result ≡ fingerprint_of (plain_contents c.args.contents.now c.args.page_index)
fingerprint c = c.fingerprint-fingerprint.ensures ∙ ap fingerprint_of c.bytes_at-bytes.ensures

answered : (c : After-had) → had c.args.last (fingerprint_of (plain_contents c.args.contents.now c.args.page_index)) ≡ c.had.result
answered c = ap (had c.args.last) (sym (fingerprint c)) ∙ sym c.had.ensures

zeros : (c : After-goes_to_zeros) → c.join.new.self ≡ c.args.self.now → ((c.args.self.now.options.use_zero_pages == 1) && bytes_eq (plain_contents c.args.contents.now c.args.page_index) zero_page) ≡ c.goes_to_zeros.result
zeros c same =
    ap (λ (bytes : List ℕ). (c.args.self.now.options.use_zero_pages == 1) && bytes_eq bytes zero_page) (sym c.bytes_at-bytes.ensures)
    ∙ ap (λ (s : Sharing). (s.options.use_zero_pages == 1) && bytes_eq c.bytes_at-bytes.result.now zero_page) (sym same)
    ∙ sym c.goes_to_zeros.ensures

pub returns-then-not-had : goal.returns-then-not-had
returns-then-not-had c =
    let h = (goal.at.returns-then-not-had c).After-had in
    looked-changed (plain_contents c.args.contents.now) c.args.self.now c.args.page_index c.args.last (alone h) (answered h ∙ c.if-not-had.true)
    ∙ ap (λ (f : ℕ). (visited.Changed, changed c.args.self.now c.args.page_index f)) (sym (fingerprint h))
    ∙ ap (λ (s : Sharing). (visited.Changed, changed s c.args.page_index c.fingerprint-fingerprint.result)) (sym (stay h))
    ∙ ap (λ (s : Sharing). (visited.Changed, s)) (sym c.change.ensures)

pub returns-then-goes_to_zeros : goal.returns-then-goes_to_zeros
returns-then-goes_to_zeros c =
    let at = goal.at.returns-then-goes_to_zeros c in
    let h = at.After-had in
    looked-zeroed (plain_contents c.args.contents.now) c.args.self.now c.args.page_index c.args.last (alone h) (answered h ∙ c.if-not-had.false) (zeros at.After-goes_to_zeros (stay h) ∙ c.if-goes_to_zeros.true)
    ∙ ap (λ (s : Sharing). (visited.Zeroed, zeroed s c.args.page_index)) (sym (stay h))
    ∙ ap (λ (s : Sharing). (visited.Zeroed, s)) (sym c.zero.ensures)

pub returns : goal.returns
returns c =
    let at = goal.at.returns c in
    let h = at.After-had in
    looked-paired_or_waiting (plain_contents c.args.contents.now) c.args.self.now c.args.page_index c.args.last (alone h) (answered h ∙ c.if-not-had.false) (zeros at.After-goes_to_zeros (stay h) ∙ c.if-goes_to_zeros.false)
    ∙ ap (λ (f : ℕ). paired_or_waiting c.args.self.now c.args.page_index f (find_partner (plain_contents c.args.contents.now) c.args.self.now c.args.page_index f)) (sym (fingerprint h))
    ∙ ap (λ (s : Sharing). paired_or_waiting s c.args.page_index c.fingerprint-fingerprint.result (find_partner (plain_contents c.args.contents.now) s c.args.page_index c.fingerprint-fingerprint.result)) (sym (stay h))
    ∙ c.in_ok-visited.ensures
