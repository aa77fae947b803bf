-- Sets of addresses, the attributes that hold addresses, addresses against a base, the base of a page, paths of files,
-- addresses that lead to pages of a run, and the URL of a page of a folder. Those with `Views` serve private functions
-- alone, but for what a page of a run is.
pub mod AddressSets
pub mod AddressAttributes
pub mod Addresses
pub mod Bases
pub mod Paths
pub mod Leads
pub mod PageUrls
pub mod Views
pub mod SetViews
pub mod PageViews
pub mod RunViews
