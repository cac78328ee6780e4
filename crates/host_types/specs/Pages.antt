-- Pages of maps: where a page stands among all pages, and what it holds (this project's own rule).
use Rattle.std.specs.Prelude.{ℕ, ◌+◌, ◌*◌, ◌%◌, ◌^◌, List, ◌++◌, take, drop, replicate, fold}
use Rattle.host_types.specs.declared.shape.Page.{Page}

-- where a tenant's map stands among the maps of all tenants, of which each has eight numbers
abbrev pub map_index_of : ℕ → ℕ → ℕ
map_index_of tenant m = tenant * 8 + m

-- where a page stands among the pages of all maps, of which each has 256 numbers: the order of these
-- indices is the order of visits
abbrev pub page_index_of : Page → ℕ
page_index_of page = map_index_of page.tenant page.map * 256 + page.number

-- the content of a map's page: 4096 bytes of the map, the last page filled up with zeros
unfoldable pub page_bytes : List ℕ → ℕ → List ℕ
page_bytes bytes number = take 4096 (drop (number * 4096) bytes ++ replicate 4096 0)

-- a page of zeros
unfoldable pub zero_page : List ℕ
zero_page = replicate 4096 0

-- a fingerprint with the next byte folded in
abbrev pub folded : ℕ → ℕ → ℕ
folded fingerprint byte = (31 * fingerprint + byte) % 2 ^ 64

-- the fingerprint of a page: its bytes folded in from the first on, beginning with 0
unfoldable pub fingerprint_of : List ℕ → ℕ
fingerprint_of page = fold folded 0 page
